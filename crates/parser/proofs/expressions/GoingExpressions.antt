-- What readers of expressions have taken where they refuse can go on.
use Rattle.lexer.specs.declared.token.TokenKind.TheVariants as kinds
use Rattle.lexer.specs.declared.word.Word.TheVariants as words
use Rattle.lexer.specs.declared.delimiter.Delimiter.TheVariants as marks
use Rattle.ada_tree.specs.declared.expression.BinaryOperator.TheVariants as binary
use Rattle.std.proofs.Common.{◌≡◌, ℕ, zero, suc, true, false, List, [], ◌∷◌, ◌++◌, Option, Some, None, refl, subst}
use Rattle.std.specs.Prelude.{pos}
use Rattle.lexer.specs.declared.token.Token.{Token}
use Rattle.lexer.specs.declared.token.TokenKind.{TokenKind}
use Rattle.lexer.specs.declared.word.Word.{Word}
use Rattle.ada_tree.specs.declared.expression.UnaryOperator.{UnaryOperator}
use Rattle.ada_tree.specs.declared.expression.BinaryOperator.{BinaryOperator}
use Rattle.ada_tree.specs.ExpressionTree.{ExprTree, ArgumentTree, Parenthesized, Named, Value, Text}
use Rattle.ada_tree.specs.Language.{Tokens}
use Rattle.ada_tree.specs.ExpressionGrammar.{Production, Factor, Term, Simple, Relation}
use Rattle.parser.specs.Reading.{Reader, first, is_there, is_next, is_word, is_mark, seq, choose, many, opened}
use Rattle.parser.specs.ExpressionReading.{number, label, is_number, is_label, multiplying, adding, relational, sign, prefix, begins, operator_of, placed}
use Rattle.parser.specs.ExpressionReading.{ExpressionReaders, argument_in, arguments_in, component_of, attribute_of, selector_in}
use Rattle.parser.specs.ExpressionReading.{begins_selector}
use Rattle.parser.specs.ExpressionReading.{starts_selector, name_in, elsif_value_in, conditional_in, enclosed_in}
use Rattle.parser.specs.ExpressionReading.{parenthesis_in}
use Rattle.parser.specs.ExpressionReading.{primary_in, prefixed, factor_in, term_in, simple_in, compared_in, relation_in}
use Rattle.parser.specs.ExpressionReading.{begins_logical}
use Rattle.parser.specs.ExpressionReading.{with_more, logical_of, first_word, second_word, optional_word, repeated, logical_chain, logical_in, expression_in}
use Rattle.parser.specs.ExpressionReading.{values}
use Rattle.parser.specs.ExpressionReading.{name_at, simple_at, expression_at}
use Rattle.parser.proofs.general.Exact.{Exact, Free, Both, is_itself, exact_seq}
use Rattle.parser.proofs.general.Several.{many_stop, all_stop, exact_token, exact_skipped, exact_many, Below, Ends, apart, first_then}
use Rattle.parser.proofs.expressions.Expressions.{Exacts, ArgumentStops, argument_with, exact_argument, comma_ends, ListStops}
use Rattle.parser.proofs.expressions.Expressions.{exact_arguments_list}
use Rattle.parser.proofs.expressions.Expressions.{exact_selector, exact_selectors, continues_term, continues_relation, continues_expression}
use Rattle.parser.proofs.expressions.Primaries.{exact_elsif_value, exact_elsif_values, exact_enclosed, exact_open_primary, BareStops}
use Rattle.parser.proofs.expressions.Operations.{prefixes, signs, Prefixes, exact_unary_of, exact_factor, Table, operator_with, exact_operator}
use Rattle.parser.proofs.expressions.Operations.{operator_first}
use Rattle.parser.proofs.expressions.Operations.{multiplies, multiplying_goes, adds, adding_goes, multiplying_table, adding_table, relational_table}
use Rattle.parser.proofs.expressions.Operations.{exact_term, exact_signed, exact_simple_in}
use Rattle.parser.proofs.expressions.Relations.{exact_relation, exact_open_relation}
use Rattle.parser.proofs.expressions.Logical.{logical_is, OperatorStops, exact_logical_of, exact_next_operand, operand_first, operand_goes}
use Rattle.parser.proofs.expressions.Logical.{exact_repeated, is_logical}
use Rattle.parser.proofs.expressions.Logical.{exact_open_expression}
use Rattle.parser.proofs.expressions.Levelled.{below}
use Rattle.parser.proofs.general.Going.{GoesOn, Goes, a_token, a_name, mapped_on, goes_mapped, goes_nothing, entry_on, goes_token, goes_skipped}
use Rattle.parser.proofs.general.Going.{goes_identifier, both_on, goes_both, after_on, goes_after, goes_named, goes_if, goes_first, if_on, goes_closed}
use Rattle.parser.proofs.general.Going.{goes_many, goes_separated, opened_on}

-- a number: 0
abbrev pub a_number : Token
a_number = a_token (kinds.Number (pos 0))

-- one level down
abbrev pub Lively : ℕ → ExpressionReaders → Type 0
Lively n r = Exacts n r × Goes r.expression (a_number ∷ []) × ((place : ℕ) → GoesOn (r.conditional place))

pub exact_below : (k : ℕ) (d : Option ExpressionReaders) → Below Lively k d → Below Exacts k d
exact_below zero None b = tt
exact_below zero (Some r) b = absurd b
exact_below (suc k) None b = absurd b
exact_below (suc k) (Some r) b = b.0

some_is : {A : Type 0} (x y : A) → Some x ≡ Some y → x ≡ y
some_is x y e = cc

-- what is read one level down, if there is one
pub below_on : {R A : Type 0} (Holds : ℕ → R → Type 0) (k : ℕ) (d : Option R) (f : R → Reader A) → Below Holds k d
    → ((n : ℕ) (r : R) → Holds n r → GoesOn (f r)) → GoesOn (opened d f)
below_on Holds k d f b g = opened_on d f (λ r is. read k d b r is)
  where
    read : (k : ℕ) (d : _) → Below Holds k d → (r : _) → d ≡ Some r → GoesOn (f r)
    read zero None b r is = absurd cc
    read zero (Some q) b r is = absurd b
    read (suc k) None b r is = absurd b
    read (suc k) (Some q) b r is = subst (λ z. GoesOn (f z)) (some_is q r is) (g k q b)

-- ---- names

argument_stop : (x : ArgumentTree) (o : Option Token) → Ends continues_expression o → ArgumentStops x o
argument_stop (Value e) o h = h
argument_stop (Text text place) o h = tt

goes_argument : (n : ℕ) (r : ExpressionReaders) → Lively n r → Goes (argument_in r) (a_number ∷ [])
goes_argument n r h = goes_if (is_next is_label) refl (entry_on label) (goes_mapped Value h.1)

list_stop : (xs : List ArgumentTree) (o : Option Token) → is_mark marks.Comma o ≡ false → Ends continues_expression o → ListStops xs o
list_stop xs o h e = all_stop (is_mark marks.Comma) ArgumentStops xs o h (λ x. argument_stop x o e)

arguments_on : (n : ℕ) (r : ExpressionReaders) → Lively n r → GoesOn (arguments_in r)
arguments_on n r h =
    let list = goes_separated (kinds.Delimiter marks.Comma) refl (argument_in r) (argument_with n) ArgumentStops (exact_argument n r h.0) comma_ends
    (goes_argument n r h) (exact_arguments_list n r h.0) (λ xs. list_stop xs None refl refl) in
    (goes_mapped _ (goes_both (exact_skipped (kinds.Delimiter marks.LeftParenthesis) refl) (goes_skipped (kinds.Delimiter marks.LeftParenthesis) refl)
    (goes_both (exact_arguments_list n r h.0) list (goes_skipped (kinds.Delimiter marks.RightParenthesis) refl) (λ xs. list_stop xs _ refl refl)) (λ x. tt))).on

pointed_on : GoesOn (choose (is_mark marks.Dot) component_of attribute_of)
pointed_on =
    if_on (is_mark marks.Dot)
    (goes_mapped _ (goes_both (exact_skipped (kinds.Delimiter marks.Dot) refl) (goes_skipped (kinds.Delimiter marks.Dot) refl) goes_identifier (λ x. tt))).on
    (goes_mapped _ (goes_both (exact_skipped (kinds.Delimiter marks.Apostrophe) refl) (goes_skipped (kinds.Delimiter marks.Apostrophe) refl) goes_identifier
    (λ x. tt))).on

selector_on : (k : ℕ) (d : Option ExpressionReaders) → Below Lively k d → GoesOn (selector_in d)
selector_on k d b = if_on (is_mark marks.LeftParenthesis) (below_on Lively k d arguments_in b arguments_on) pointed_on

pub goes_name_in : (k : ℕ) (d : Option ExpressionReaders) → Below Lively k d → Goes (name_in d) (a_name ∷ [])
unfolding name_in
goes_name_in k d b =
    let e = exact_below k d b in
    goes_mapped _ (goes_named (goes_many begins_selector (exact_selector k d e) (selector_on k d b) (exact_selectors k d e) (λ xs. refl)))

-- ---- primaries

elsif_value_on : (n : ℕ) (r : ExpressionReaders) → Lively n r → GoesOn (elsif_value_in r)
elsif_value_on n r h =
    (goes_mapped _ (goes_both (exact_skipped (kinds.Word words.Elsif) refl) (goes_skipped (kinds.Word words.Elsif) refl)
    (goes_both h.0.0 h.1 (goes_both (exact_skipped (kinds.Word words.Then) refl) (goes_skipped (kinds.Word words.Then) refl) h.1 (λ x. tt)) (λ x. refl))
    (λ x. tt))).on

conditional_on : (place n : ℕ) (r : ExpressionReaders) → Lively n r → GoesOn (conditional_in place r)
conditional_on place n r h =
    let other = goes_both (exact_skipped (kinds.Word words.Else) refl) (goes_skipped (kinds.Word words.Else) refl) h.1 (λ x. tt) in
    let more = goes_many (is_word words.Elsif) (exact_elsif_value n r h.0) (elsif_value_on n r h) (exact_elsif_values n r h.0)
    (λ xs. many_stop (is_word words.Elsif) (Ends continues_expression) xs None refl refl) in
    let others = goes_both (exact_elsif_values n r h.0) more other (λ xs. many_stop (is_word words.Elsif) (Ends continues_expression) xs _ refl refl) in
    let value = goes_both h.0.0 h.1 others (λ x. refl) in
    let from_then = goes_both (exact_skipped (kinds.Word words.Then) refl) (goes_skipped (kinds.Word words.Then) refl) value (λ x. tt) in
    let test = goes_both h.0.0 h.1 from_then (λ x. refl) in
    (goes_mapped _ (goes_both (exact_skipped (kinds.Word words.If) refl) (goes_skipped (kinds.Word words.If) refl) test (λ x. tt))).on

goes_enclosed : (place n : ℕ) (r : ExpressionReaders) → Lively n r → Goes (enclosed_in r place) (a_number ∷ [])
goes_enclosed place n r h = goes_if (is_word words.If) refl (h.2 place) (goes_mapped (Parenthesized place) h.1)

parenthesis_on : (n : ℕ) (r : ExpressionReaders) → Lively n r → GoesOn (parenthesis_in r)
parenthesis_on n r h =
    let shut = λ (place : ℕ). goes_mapped (λ x. x.0) (goes_both (exact_enclosed place n r h.0) (goes_enclosed place n r h)
    (goes_skipped (kinds.Delimiter marks.RightParenthesis) refl) (λ x. refl)) in
    after_on (exact_token (kinds.Delimiter marks.LeftParenthesis) refl) (goes_token (kinds.Delimiter marks.LeftParenthesis) refl).on
    (λ place u g. (shut place).on) (λ place u g. (a_number ∷ a_token (kinds.Delimiter marks.RightParenthesis) ∷ [], (shut place).all, tt))

bare_stop : (e : ExprTree) → BareStops e None
bare_stop (Named name all) = refl
bare_stop e = tt

goes_primary : (k : ℕ) (d : Option ExpressionReaders) → Below Lively k d → Goes (primary_in d) (a_number ∷ [])
unfolding primary_in
goes_primary k d b =
    goes_closed begins_selector refl (exact_open_primary k d (exact_below k d b)) bare_stop
    (goes_if (is_mark marks.LeftParenthesis) refl (below_on Lively k d parenthesis_in b parenthesis_on)
    (goes_first (is_next is_number) refl (record { on = entry_on number; all = (_, refl) }) (mapped_on _ (goes_name_in k d b).on)))

-- ---- operations

goes_prefixed : (f : TokenKind → Option UnaryOperator) (n : Production) (a : Reader ExprTree) → Prefixes f n → begins f (Some a_number) ≡ false
    → Goes a (a_number ∷ []) → Goes (prefixed f a) (a_number ∷ [])
goes_prefixed f n a table h ga =
    goes_if (begins f) h
    (mapped_on _ (both_on (exact_unary_of f n table) (entry_on (λ kind place. placed (f kind) place)) ga.on (a_number ∷ []) ga.all (λ x. tt)))
    ga

goes_factor : (k : ℕ) (d : Option ExpressionReaders) → Below Lively k d → Goes (factor_in d) (a_number ∷ [])
unfolding factor_in
goes_factor k d b = goes_prefixed prefix Factor (primary_in d) prefixes refl (goes_primary k d b)

-- operators and the operands behind them
module _ (f : TokenKind → Option BinaryOperator) (n : Production) (table : Table f n) {b : Reader ExprTree} {P : ExprTree → Tokens → Type 0}
    {S : Option Token → Type 0}
    (eb : Exact b P (λ _. S)) (goes : (o : Option Token) → begins f o ≡ true → S o) (at_end : S None) (gb : Goes b (a_number ∷ [])) where
  item_exact : Exact (seq (operator_of f) b) (Both (operator_with n) P) (λ _. S)
  item_exact =
      exact_seq (operator_of f) b (operator_with n) P Free (λ _. S) (λ _. S) (exact_operator f n table) eb (λ x y v r g st. (tt, st)) (λ x y v r g st t. t)

  item_first : (x : BinaryOperator × ExprTree) (s r : Tokens) → Both (operator_with n) P x s → begins f (first (s ++ r)) ≡ true
  item_first x s r g = first_then (λ z. is_there (f z)) true (operator_with n x.0) (P x.1) s r (λ u r h. operator_first f n table x.0 u r h) g

  item_on : GoesOn (seq (operator_of f) b)
  item_on = both_on (exact_operator f n table) (entry_on (λ kind place. f kind)) gb.on (a_number ∷ []) gb.all (λ x. tt)

  goes_items : Goes (many (begins f) (seq (operator_of f) b)) []
  goes_items =
      goes_many (begins f) item_exact item_on
      (exact_many (begins f) (seq (operator_of f) b) (Both (operator_with n) P) S item_exact item_first goes refl)
      (λ xs. many_stop (begins f) S xs None refl at_end)

goes_term : (k : ℕ) (d : Option ExpressionReaders) → Below Lively k d → Goes (term_in d) (a_number ∷ [])
unfolding term_in
goes_term k d b =
    let e = exact_below k d b in
    let g = goes_factor k d b in
    goes_mapped _ (goes_both (exact_factor k d e) g
    (goes_items multiplying Term multiplying_table (exact_factor k d e) (apart multiplies starts_selector multiplying_goes) refl g)
    (λ x. refl))

pub goes_simple_in : (k : ℕ) (d : Option ExpressionReaders) → Below Lively k d → Goes (simple_in d) (a_number ∷ [])
unfolding simple_in
goes_simple_in k d b =
    let e = exact_below k d b in
    let g = goes_term k d b in
    goes_mapped _ (goes_both (exact_signed k d e) (goes_prefixed sign Simple (term_in d) signs refl g)
    (goes_items adding Simple adding_table (exact_term k d e) (apart adds continues_term adding_goes) refl g)
    (λ x. refl))

goes_compared : (k : ℕ) (d : Option ExpressionReaders) (left : ExprTree) → Below Lively k d → Goes (compared_in d left) []
goes_compared k d left b =
    let g = goes_simple_in k d b in
    goes_if (begins relational) refl
    (mapped_on _ (both_on (exact_operator relational Relation relational_table) (entry_on (λ kind place. relational kind)) g.on (a_number ∷ []) g.all
    (λ x. tt)))
    (goes_nothing left)

goes_relation : (k : ℕ) (d : Option ExpressionReaders) → Below Lively k d → Goes (relation_in d) (a_number ∷ [])
unfolding relation_in
goes_relation k d b =
    let e = exact_below k d b in
    goes_closed (begins relational) refl (exact_open_relation k d e) (λ x. (refl, λ t. refl))
    (goes_after (exact_simple_in k d e) (goes_simple_in k d b) (λ x u g. goes_compared k d x b) (λ x u g. refl))

goes_with_more : (short : BinaryOperator) (more : Word) (long : BinaryOperator) → Goes (with_more short more long) []
goes_with_more short more long = goes_if (is_word more) refl (mapped_on (λ x. long) (goes_skipped (kinds.Word more) (is_itself more)).on) (goes_nothing short)

logical_of_on : GoesOn logical_of
logical_of_on =
    if_on (is_word words.And)
    (goes_mapped _ (goes_both (exact_skipped (kinds.Word words.And) refl) (goes_skipped (kinds.Word words.And) refl)
    (goes_with_more binary.And words.Then binary.AndThen) (λ x. tt))).on
    (if_on (is_word words.Or)
    (goes_mapped _ (goes_both (exact_skipped (kinds.Word words.Or) refl) (goes_skipped (kinds.Word words.Or) refl)
    (goes_with_more binary.Or words.Else binary.OrElse) (λ x. tt))).on
    (mapped_on (λ x. binary.Xor) (goes_skipped (kinds.Word words.Xor) refl).on))

abbrev second_tokens : Option Word → Tokens
second_tokens None = []
second_tokens (Some w) = a_token (kinds.Word w) ∷ []

goes_optional : (m : Option Word) → Goes (optional_word m) (second_tokens m)
goes_optional None = goes_nothing tt
goes_optional (Some w) = goes_skipped (kinds.Word w) (is_itself w)

goes_repeated : (o : BinaryOperator) → Goes (repeated o) (a_token (kinds.Word (first_word o)) ∷ second_tokens (second_word o))
goes_repeated o =
    goes_mapped _ (goes_both (exact_skipped (kinds.Word (first_word o)) (is_itself (first_word o))) (goes_skipped (kinds.Word (first_word o)) (is_itself
    (first_word o)))
    (goes_optional (second_word o)) (λ x. tt))

goes_logical_chain : (k : ℕ) (d : Option ExpressionReaders) (left : ExprTree) (o : BinaryOperator) → is_logical o ≡ true → Below Lively k d
    → Goes (logical_chain d left o) (a_number ∷ [])
goes_logical_chain k d left o lo b =
    let e = exact_below k d b in
    let g = goes_relation k d b in
    goes_mapped _ (goes_both (exact_relation k d e) g
    (goes_many (is_word (first_word o)) (exact_next_operand k d e o lo)
    (mapped_on _ (goes_both (exact_repeated o lo) (goes_repeated o) g (λ x. tt)).on)
    (exact_many (is_word (first_word o)) _ _ (Ends continues_relation) (exact_next_operand k d e o lo) (operand_first k d e o lo)
    (operand_goes k d e o lo) refl)
    (λ xs. many_stop (is_word (first_word o)) (Ends continues_relation) xs None refl refl))
    (λ x. refl))

operator_stop : (o : BinaryOperator) → OperatorStops o (Some a_number)
operator_stop binary.And = refl
operator_stop binary.Or = refl
operator_stop o = tt

goes_logical : (k : ℕ) (d : Option ExpressionReaders) (left : ExprTree) → Below Lively k d → Goes (logical_in d left) []
goes_logical k d left b =
    goes_if begins_logical refl
    (after_on exact_logical_of logical_of_on (λ o u g. (goes_logical_chain k d left o (logical_is o u g) b).on)
    (λ o u g. (a_number ∷ [], (goes_logical_chain k d left o (logical_is o u g) b).all, operator_stop o)))
    (goes_nothing left)

pub goes_expression_in : (k : ℕ) (d : Option ExpressionReaders) → Below Lively k d → Goes (expression_in d) (a_number ∷ [])
unfolding expression_in
goes_expression_in k d b =
    let e = exact_below k d b in
    goes_closed begins_logical refl (exact_open_expression k d e) (λ x. (refl, refl))
    (goes_after (exact_relation k d e) (goes_relation k d b) (λ x u g. goes_logical k d x b) (λ x u g. refl))

-- ---- with any number of levels

pub lively : (k : ℕ) → Below Lively k (values k)
lively zero = tt
lively (suc k) = (
  below (suc k),
  goes_expression_in k (values k) (lively k),
  λ place. below_on Lively k (values k) (conditional_in place) (lively k) (conditional_on place),
)

pub goes_expression : (k : ℕ) → Goes (expression_at k) (a_number ∷ [])
goes_expression k = goes_expression_in k (values k) (lively k)

pub goes_simple : (k : ℕ) → Goes (simple_at k) (a_number ∷ [])
goes_simple k = goes_simple_in k (values k) (lively k)

pub goes_name : (k : ℕ) → Goes (name_at k) (a_name ∷ [])
goes_name k = goes_name_in k (values k) (lively k)
