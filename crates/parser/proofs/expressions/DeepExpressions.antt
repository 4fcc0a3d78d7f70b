-- Faults of depth in expressions.
use Rattle.lexer.specs.declared.token.TokenKind.TheVariants as kinds
use Rattle.lexer.specs.declared.word.Word.TheVariants as words
use Rattle.lexer.specs.declared.delimiter.Delimiter.TheVariants as marks
use Rattle.ada_tree.specs.declared.expression.BinaryOperator.TheVariants as binary
use Rattle.std.proofs.Common.{◌≡◌, ℕ, zero, suc, true, Option, Some, None, refl, arith}
use Rattle.lexer.specs.declared.token.Token.{Token}
use Rattle.lexer.specs.declared.token.TokenKind.{TokenKind}
use Rattle.lexer.specs.declared.word.Word.{Word}
use Rattle.ada_tree.specs.declared.expression.UnaryOperator.{UnaryOperator}
use Rattle.ada_tree.specs.declared.expression.BinaryOperator.{BinaryOperator}
use Rattle.ada_tree.specs.ExpressionTree.{ExprTree, Parenthesized, Binary, Value}
use Rattle.ada_tree.specs.Language.{Tokens, ◌⨾◌, word, mark, mark_at, identifier, separated}
use Rattle.ada_tree.specs.ExpressionGrammar.{Production, Factor, Term, Simple, Relation, Expression, derives}
use Rattle.parser.specs.Reading.{Reader, is_next, is_word, is_mark, entry_of, mark_of, skip_word, skip_mark, identifier_of, seq, after, mapped, choose, many}
use Rattle.parser.specs.Reading.{nothing, opened}
use Rattle.parser.specs.ExpressionReading.{number, label, is_number, is_label, multiplying, adding, relational, sign, prefix, begins, operator_of, placed}
use Rattle.parser.specs.ExpressionReading.{unary_of, ExpressionReaders, argument_in, arguments_list, arguments_in, component_of, attribute_of, selector_in}
use Rattle.parser.specs.ExpressionReading.{begins_selector, starts_selector, selectors_in, name_in, elsif_value_in, elsif_values_in, conditional_in}
use Rattle.parser.specs.ExpressionReading.{enclosed_in, parenthesis_in, named_in, open_primary_in, primary_in, prefixed, factor_in, folded, operated, chain_of}
use Rattle.parser.specs.ExpressionReading.{term_in, simple_in, compared_in, relation_in, begins_logical, with_more, logical_of, first_word, second_word}
use Rattle.parser.specs.ExpressionReading.{optional_word, repeated, logical_chain, logical_in, expression_in, values, name_at, simple_at, expression_at}
use Rattle.parser.specs.Levels.{opens}
use Rattle.parser.proofs.general.Exact.{Exact, Free, Both, is_itself, exact_seq, exact_mapped}
use Rattle.parser.proofs.general.Several.{exact_token, exact_skipped, exact_identifier, Below, Ends}
use Rattle.parser.proofs.expressions.Expressions.{continues_term, continues_simple, continues_relation, continues_expression, Exacts, ExpressionStops}
use Rattle.parser.proofs.expressions.Expressions.{ArgumentStops, argument_with, exact_argument, comma_ends, ListStops, exact_arguments_list, selector_with}
use Rattle.parser.proofs.expressions.Expressions.{exact_selector}
use Rattle.parser.proofs.expressions.Primaries.{elsif_with, exact_elsif_value, exact_elsif_values, exact_enclosed, enclosed}
use Rattle.parser.proofs.expressions.Operations.{unary_token, prefixes, signs, Prefixes, exact_unary_of, exact_factor, Table, operator_with, exact_operator}
use Rattle.parser.proofs.expressions.Operations.{multiplying_table, adding_table, relational_table, exact_term, exact_signed, prefixed_with, exact_simple_in}
use Rattle.parser.proofs.expressions.Relations.{exact_relation}
use Rattle.parser.proofs.expressions.Logical.{logical_with, OperatorStops, exact_logical_of, words_of, exact_words_of}
use Rattle.parser.proofs.expressions.Levelled.{below}
use Rattle.parser.proofs.general.Deep.{Deep, DeepWhere, deep_where, deep_entry, deep_token, deep_skipped, deep_identifier, deep_nothing, deep_mapped, deep_seq}
use Rattle.parser.proofs.general.Deep.{deep_then, deep_after, deep_choose, deep_closed, deep_many, deep_separated, deep_opened, one_opener, one_opener_at}
use Rattle.parser.proofs.general.Deep.{opening_kind}

-- with n levels
abbrev DeepValues : ℕ → ExpressionReaders → Type 0
DeepValues n r = Deep n r.expression × ((place : ℕ) → DeepWhere (is_word words.If) n (r.conditional place))

-- exact, and faults of depth are right
abbrev pub Known : ℕ → ExpressionReaders → Type 0
Known n r = Exacts n r × DeepValues n r

pub known_exact : (k : ℕ) (d : Option ExpressionReaders) → Below Known k d → Below Exacts k d
known_exact zero None b = tt
known_exact zero (Some r) b = absurd b
known_exact (suc k) None b = absurd b
known_exact (suc k) (Some r) b = b.0

parenthesis_opens : (o : Option Token) → is_mark marks.LeftParenthesis o ≡ true → is_next opens o ≡ true
parenthesis_opens o h = opening_kind (kinds.Delimiter marks.LeftParenthesis) o refl h

if_opens : (o : Option Token) → is_word words.If o ≡ true → is_next opens o ≡ true
if_opens o h = opening_kind (kinds.Word words.If) o refl h

-- ---- names

deep_argument : (n : ℕ) (r : ExpressionReaders) → Known n r → Deep n (argument_in r)
deep_argument n r h =
    deep_choose n (is_next is_label) (entry_of label) (mapped Value r.expression) (deep_where (is_next is_label) n (entry_of label) (deep_entry n label))
    (deep_mapped n Value r.expression h.1.0)

deep_arguments : (n : ℕ) (r : ExpressionReaders) → Known n r → Deep (suc n) (arguments_in r)
deep_arguments n r h =
    let list : Deep n (arguments_list r) =
    deep_separated n (kinds.Delimiter marks.Comma) refl (argument_in r) (argument_with n) ArgumentStops (exact_argument n r h.0) comma_ends
    (deep_argument n r h) in
    deep_mapped (suc n) _ (seq (skip_mark marks.LeftParenthesis) (seq (arguments_list r) (skip_mark marks.RightParenthesis)))
    (deep_seq n (suc n) (skip_mark marks.LeftParenthesis) (seq (arguments_list r) (skip_mark marks.RightParenthesis)) (λ _. mark marks.LeftParenthesis) Free
    (exact_skipped (kinds.Delimiter marks.LeftParenthesis) refl)
    (deep_skipped (suc n) (kinds.Delimiter marks.LeftParenthesis))
    (deep_then n (arguments_list r) (skip_mark marks.RightParenthesis) (separated (kinds.Delimiter marks.Comma) (argument_with n)) ListStops
    (exact_arguments_list n r h.0) list (deep_skipped n (kinds.Delimiter marks.RightParenthesis)))
    (λ x s g. omega (arith, one_opener (kinds.Delimiter marks.LeftParenthesis) s refl g)))

deep_component : (k : ℕ) → Deep k component_of
deep_component k =
    deep_mapped k _ (seq (skip_mark marks.Dot) identifier_of)
    (deep_then k (skip_mark marks.Dot) identifier_of (λ _. mark marks.Dot) Free (exact_skipped (kinds.Delimiter marks.Dot) refl)
    (deep_skipped k (kinds.Delimiter marks.Dot)) (deep_identifier k))

deep_attribute : (k : ℕ) → Deep k attribute_of
deep_attribute k =
    deep_mapped k _ (seq (skip_mark marks.Apostrophe) identifier_of)
    (deep_then k (skip_mark marks.Apostrophe) identifier_of (λ _. mark marks.Apostrophe) Free (exact_skipped (kinds.Delimiter marks.Apostrophe) refl)
    (deep_skipped k (kinds.Delimiter marks.Apostrophe)) (deep_identifier k))

deep_selector : (k : ℕ) (d : Option ExpressionReaders) → Below Known k d → Deep k (selector_in d)
deep_selector k d b =
    deep_choose k (is_mark marks.LeftParenthesis) (opened d arguments_in) (choose (is_mark marks.Dot) component_of attribute_of)
    (deep_opened Known (is_mark marks.LeftParenthesis) k d arguments_in parenthesis_opens b deep_arguments)
    (deep_choose k (is_mark marks.Dot) component_of attribute_of (deep_where (is_mark marks.Dot) k component_of (deep_component k)) (deep_attribute k))

pub deep_name_in : (k : ℕ) (d : Option ExpressionReaders) → Below Known k d → Deep k (name_in d)
unfolding name_in
deep_name_in k d b =
    deep_mapped k _ (seq identifier_of (selectors_in d))
    (deep_then k identifier_of (selectors_in d) identifier Free exact_identifier (deep_identifier k)
    (deep_many k begins_selector (selector_in d) (selector_with k) Free (exact_selector k d (known_exact k d b)) (deep_selector k d b)))

-- ---- primaries

deep_elsif_value : (n : ℕ) (r : ExpressionReaders) → Known n r → Deep n (elsif_value_in r)
deep_elsif_value n r h =
    deep_mapped n _ (seq (skip_word words.Elsif) (seq r.expression (seq (skip_word words.Then) r.expression)))
    (deep_then n (skip_word words.Elsif) (seq r.expression (seq (skip_word words.Then) r.expression)) (λ _. word words.Elsif) Free
    (exact_skipped (kinds.Word words.Elsif) refl) (deep_skipped n (kinds.Word words.Elsif))
    (deep_then n r.expression (seq (skip_word words.Then) r.expression) (derives Expression (Some n)) ExpressionStops h.0.0 h.1.0
    (deep_then n (skip_word words.Then) r.expression (λ _. word words.Then) Free (exact_skipped (kinds.Word words.Then) refl)
    (deep_skipped n (kinds.Word words.Then)) h.1.0)))

deep_elsif_values : (n : ℕ) (r : ExpressionReaders) → Known n r → Deep n (elsif_values_in r)
deep_elsif_values n r h =
    deep_many n (is_word words.Elsif) (elsif_value_in r) (elsif_with n) (λ _. Ends continues_expression) (exact_elsif_value n r h.0) (deep_elsif_value n r h)

deep_conditional : (place n : ℕ) (r : ExpressionReaders) → Known n r → Deep (suc n) (conditional_in place r)
deep_conditional place n r h =
    let other : Deep n (seq (skip_word words.Else) r.expression) =
    deep_then n (skip_word words.Else) r.expression (λ _. word words.Else) Free (exact_skipped (kinds.Word words.Else) refl)
    (deep_skipped n (kinds.Word words.Else)) h.1.0 in
    let others : Deep n (seq (elsif_values_in r) (seq (skip_word words.Else) r.expression)) =
    deep_then n (elsif_values_in r) (seq (skip_word words.Else) r.expression) _ _ (exact_elsif_values n r h.0) (deep_elsif_values n r h) other in
    let value : Deep n (seq r.expression (seq (elsif_values_in r) (seq (skip_word words.Else) r.expression))) =
    deep_then n r.expression (seq (elsif_values_in r) (seq (skip_word words.Else) r.expression)) (derives Expression (Some n)) ExpressionStops h.0.0 h.1.0
    others in
    let from_then : Deep n (seq (skip_word words.Then) (seq r.expression (seq (elsif_values_in r) (seq (skip_word words.Else) r.expression)))) =
    deep_then n (skip_word words.Then) (seq r.expression (seq (elsif_values_in r) (seq (skip_word words.Else) r.expression))) (λ _. word words.Then) Free
    (exact_skipped (kinds.Word words.Then) refl) (deep_skipped n (kinds.Word words.Then)) value in
    let test : Deep n (seq r.expression (seq (skip_word words.Then) (seq r.expression (seq (elsif_values_in r) (seq (skip_word words.Else) r.expression))))) =
    deep_then n r.expression (seq (skip_word words.Then) (seq r.expression (seq (elsif_values_in r) (seq (skip_word words.Else) r.expression))))
    (derives Expression (Some n)) ExpressionStops h.0.0 h.1.0 from_then in
    deep_mapped (suc n) _ (seq (skip_word words.If)
    (seq r.expression (seq (skip_word words.Then) (seq r.expression (seq (elsif_values_in r) (seq (skip_word words.Else) r.expression))))))
    (deep_seq n (suc n) (skip_word words.If)
    (seq r.expression (seq (skip_word words.Then) (seq r.expression (seq (elsif_values_in r) (seq (skip_word words.Else) r.expression)))))
    (λ _. word words.If) Free (exact_skipped (kinds.Word words.If) refl) (deep_skipped (suc n) (kinds.Word words.If)) test
    (λ x s g. omega (arith, one_opener (kinds.Word words.If) s refl g)))

deep_enclosed : (place n : ℕ) (r : ExpressionReaders) → Known n r → Deep n (enclosed_in r place)
deep_enclosed place n r h =
    deep_choose n (is_word words.If) (r.conditional place) (mapped (Parenthesized place) r.expression) (h.1.1 place)
    (deep_mapped n (Parenthesized place) r.expression h.1.0)

deep_parenthesis : (n : ℕ) (r : ExpressionReaders) → Known n r → Deep (suc n) (parenthesis_in r)
deep_parenthesis n r h =
    deep_after n (suc n) (mark_of marks.LeftParenthesis) (λ place. mapped (λ x. x.0) (seq (enclosed_in r place) (skip_mark marks.RightParenthesis)))
    (mark_at marks.LeftParenthesis) Free
    (exact_token (kinds.Delimiter marks.LeftParenthesis) refl) (deep_token (suc n) (kinds.Delimiter marks.LeftParenthesis))
    (λ place s g. deep_mapped n _ (seq (enclosed_in r place) (skip_mark marks.RightParenthesis))
    (deep_then n (enclosed_in r place) (skip_mark marks.RightParenthesis) (enclosed place n) ExpressionStops (exact_enclosed place n r h.0)
    (deep_enclosed place n r h) (deep_skipped n (kinds.Delimiter marks.RightParenthesis))))
    (λ place s g. omega (arith, one_opener_at (kinds.Delimiter marks.LeftParenthesis) place s refl g))

deep_primary : (k : ℕ) (d : Option ExpressionReaders) → Below Known k d → Deep k (primary_in d)
unfolding primary_in
deep_primary k d b =
    deep_closed k begins_selector (open_primary_in d)
    (deep_choose k (is_mark marks.LeftParenthesis) (opened d parenthesis_in) (choose (is_next is_number) (entry_of number) (named_in d))
    (deep_opened Known (is_mark marks.LeftParenthesis) k d parenthesis_in parenthesis_opens b deep_parenthesis)
    (deep_choose k (is_next is_number) (entry_of number) (named_in d) (deep_where (is_next is_number) k (entry_of number) (deep_entry k number))
    (deep_mapped k _ (name_in d) (deep_name_in k d b))))

-- ---- operations

deep_prefixed : (k : ℕ) (f : TokenKind → Option UnaryOperator) (n : Production) (a : Reader ExprTree) → Prefixes f n → Deep k a → Deep k (prefixed f a)
deep_prefixed k f n a table da =
    deep_choose k (begins f) (mapped _ (seq (unary_of f) a)) a
    (deep_where (begins f) k (mapped _ (seq (unary_of f) a))
    (deep_mapped k _ (seq (unary_of f) a)
    (deep_then k (unary_of f) a (unary_token n) Free (exact_unary_of f n table) (deep_entry k (λ kind place. placed (f kind) place)) da))) da

deep_operator : (k : ℕ) (f : TokenKind → Option BinaryOperator) → Deep k (operator_of f)
deep_operator k f = deep_entry k (λ kind place. f kind)

deep_factor : (k : ℕ) (d : Option ExpressionReaders) → Below Known k d → Deep k (factor_in d)
unfolding factor_in
deep_factor k d b = deep_prefixed k prefix Factor (primary_in d) prefixes (deep_primary k d b)

module _ (k : ℕ) (f : TokenKind → Option BinaryOperator) (n : Production) (table : Table f n) (a b : Reader ExprTree) (PA PB : ExprTree → Tokens → Type 0)
    (SA SB : Option Token → Type 0)
    (ea : Exact a PA (λ _. SA)) (eb : Exact b PB (λ _. SB)) where
  deep_item : Deep k b → Deep k (seq (operator_of f) b)
  deep_item db = deep_then k (operator_of f) b (operator_with n) Free (exact_operator f n table) (deep_operator k f) db

  deep_chain : Deep k a → Deep k b → Deep k (chain_of a f b)
  deep_chain da db =
      deep_mapped k _ (seq a (many (begins f) (seq (operator_of f) b)))
      (deep_then k a (many (begins f) (seq (operator_of f) b)) PA (λ _. SA) ea da
      (deep_many k (begins f) (seq (operator_of f) b) (Both (operator_with n) PB) (λ _. SB)
      (exact_seq (operator_of f) b (operator_with n) PB Free (λ _. SB) (λ _. SB) (exact_operator f n table) eb (λ x y v r g st. (tt, st)) (λ x y v r g st t. t))
      (deep_item db)))

deep_term : (k : ℕ) (d : Option ExpressionReaders) → Below Known k d → Deep k (term_in d)
unfolding term_in
deep_term k d b =
    let e = exact_factor k d (known_exact k d b) in
    deep_chain k multiplying Term multiplying_table (factor_in d) (factor_in d) (derives Factor (Some k)) (derives Factor (Some k)) (Ends starts_selector)
    (Ends starts_selector) e e (deep_factor k d b) (deep_factor k d b)

pub deep_simple_in : (k : ℕ) (d : Option ExpressionReaders) → Below Known k d → Deep k (simple_in d)
unfolding simple_in
deep_simple_in k d b =
    deep_chain k adding Simple adding_table (prefixed sign (term_in d)) (term_in d) (prefixed_with Simple k) (derives Term (Some k)) (Ends continues_term)
    (Ends continues_term)
    (exact_signed k d (known_exact k d b)) (exact_term k d (known_exact k d b)) (deep_prefixed k sign Simple (term_in d) signs (deep_term k d b))
    (deep_term k d b)

deep_compared : (k : ℕ) (d : Option ExpressionReaders) (left : ExprTree) → Below Known k d → Deep k (compared_in d left)
deep_compared k d left b =
    deep_choose k (begins relational) (mapped _ (seq (operator_of relational) (simple_in d))) (nothing left)
    (deep_where (begins relational) k (mapped _ (seq (operator_of relational) (simple_in d)))
    (deep_mapped k (λ x. Binary x.0 left x.1) (seq (operator_of relational) (simple_in d))
    (deep_then k (operator_of relational) (simple_in d) (operator_with Relation) Free (exact_operator relational Relation relational_table)
    (deep_operator k relational) (deep_simple_in k d b))))
    (deep_nothing k left)

deep_relation : (k : ℕ) (d : Option ExpressionReaders) → Below Known k d → Deep k (relation_in d)
unfolding relation_in
deep_relation k d b =
    deep_closed k (begins relational) (after (simple_in d) (compared_in d))
    (deep_after k k (simple_in d) (compared_in d) (derives Simple (Some k)) (λ _. Ends continues_simple) (exact_simple_in k d (known_exact k d b))
    (deep_simple_in k d b)
    (λ x s g. deep_compared k d x b) (λ x s g. omega arith))

deep_with_more : (k : ℕ) (short : BinaryOperator) (more : Word) (long : BinaryOperator) → Deep k (with_more short more long)
deep_with_more k short more long =
    deep_choose k (is_word more) (mapped (λ x. long) (skip_word more)) (nothing short)
    (deep_where (is_word more) k (mapped (λ x. long) (skip_word more)) (deep_mapped k (λ x. long) (skip_word more) (deep_skipped k (kinds.Word more))))
    (deep_nothing k short)

deep_words : (k : ℕ) (w : Word) (short : BinaryOperator) (more : Word) (long : BinaryOperator)
    → Deep k (mapped (λ x. x.1) (seq (skip_word w) (with_more short more long)))
deep_words k w short more long =
    deep_mapped k (λ x. x.1) (seq (skip_word w) (with_more short more long))
    (deep_then k (skip_word w) (with_more short more long) (λ _. word w) Free (exact_skipped (kinds.Word w) (is_itself w)) (deep_skipped k (kinds.Word w))
    (deep_with_more k short more long))

abbrev or_of : Reader BinaryOperator
or_of = mapped (λ x. x.1) (seq (skip_word words.Or) (with_more binary.Or words.Else binary.OrElse))

abbrev and_of : Reader BinaryOperator
and_of = mapped (λ x. x.1) (seq (skip_word words.And) (with_more binary.And words.Then binary.AndThen))

abbrev xor_of : Reader BinaryOperator
xor_of = mapped (λ x. binary.Xor) (skip_word words.Xor)

deep_logical_of : (k : ℕ) → Deep k logical_of
deep_logical_of k =
    deep_choose k (is_word words.And) and_of (choose (is_word words.Or) or_of xor_of)
    (deep_where (is_word words.And) k and_of (deep_words k words.And binary.And words.Then binary.AndThen))
    (deep_choose k (is_word words.Or) or_of xor_of (deep_where (is_word words.Or) k or_of (deep_words k words.Or binary.Or words.Else binary.OrElse))
    (deep_mapped k (λ x. binary.Xor) (skip_word words.Xor) (deep_skipped k (kinds.Word words.Xor))))

deep_optional : (k : ℕ) (m : Option Word) → Deep k (optional_word m)
deep_optional k None = deep_nothing k tt
deep_optional k (Some w) = deep_skipped k (kinds.Word w)

deep_repeated : (k : ℕ) (o : BinaryOperator) → Deep k (repeated o)
deep_repeated k o =
    deep_mapped k (λ x. tt) (seq (skip_word (first_word o)) (optional_word (second_word o)))
    (deep_then k (skip_word (first_word o)) (optional_word (second_word o)) (λ _. word (first_word o)) Free
    (exact_skipped (kinds.Word (first_word o)) (is_itself (first_word o))) (deep_skipped k (kinds.Word (first_word o))) (deep_optional k (second_word o)))

deep_logical_chain : (k : ℕ) (d : Option ExpressionReaders) (left : ExprTree) (o : BinaryOperator) → Below Known k d → Deep k (logical_chain d left o)
deep_logical_chain k d left o b =
    let e = exact_relation k d (known_exact k d b) in
    let operand : Reader ExprTree = mapped (λ x. x.1) (seq (repeated o) (relation_in d)) in
    let exact_operand : Exact operand (λ t. words_of o ⨾ derives Relation (Some k) t) (λ _. Ends continues_relation) =
    exact_mapped (λ x. x.1) (seq (repeated o) (relation_in d)) (Both (λ _. words_of o) (derives Relation (Some k)))
    (λ t. words_of o ⨾ derives Relation (Some k) t) (λ x. Ends continues_relation) (λ _. Ends continues_relation)
    (exact_seq (repeated o) (relation_in d) (λ _. words_of o) (derives Relation (Some k)) Free (λ _. Ends continues_relation) (λ x. Ends continues_relation)
    (exact_words_of o) e (λ x y v r g st. (tt, st)) (λ x y v r g st t. t))
    (λ x ts g. g) (λ y ts g. ((tt, y), g, refl)) (λ x ts t g st. st) (λ x ts t g st. st) in
    deep_mapped k (λ x. folded (operated o) (Binary o left x.0) x.1) (seq (relation_in d) (many (is_word (first_word o)) operand))
    (deep_then k (relation_in d) (many (is_word (first_word o)) operand) (derives Relation (Some k)) (λ _. Ends continues_relation) e (deep_relation k d b)
    (deep_many k (is_word (first_word o)) operand (λ t. words_of o ⨾ derives Relation (Some k) t) (λ _. Ends continues_relation) exact_operand
    (deep_mapped k (λ x. x.1) (seq (repeated o) (relation_in d))
    (deep_then k (repeated o) (relation_in d) (λ _. words_of o) Free (exact_words_of o) (deep_repeated k o) (deep_relation k d b)))))

deep_logical : (k : ℕ) (d : Option ExpressionReaders) (left : ExprTree) → Below Known k d → Deep k (logical_in d left)
deep_logical k d left b =
    deep_choose k begins_logical (after logical_of (logical_chain d left)) (nothing left)
    (deep_where begins_logical k (after logical_of (logical_chain d left))
    (deep_after k k logical_of (logical_chain d left) logical_with OperatorStops exact_logical_of (deep_logical_of k) (λ o s g. deep_logical_chain k d left o b)
    (λ x s g. omega arith)))
    (deep_nothing k left)

pub deep_expression_in : (k : ℕ) (d : Option ExpressionReaders) → Below Known k d → Deep k (expression_in d)
unfolding expression_in
deep_expression_in k d b =
    deep_closed k begins_logical (after (relation_in d) (logical_in d))
    (deep_after k k (relation_in d) (logical_in d) (derives Relation (Some k)) (λ _. Ends continues_relation) (exact_relation k d (known_exact k d b))
    (deep_relation k d b)
    (λ x s g. deep_logical k d x b) (λ x s g. omega arith))

-- ---- with any number of levels

pub known : (k : ℕ) → Below Known k (values k)
known zero = tt
known (suc k) = (
  below (suc k),
  (
    deep_expression_in k (values k) (known k),
    λ place. deep_opened Known (is_word words.If) k (values k) (conditional_in place) if_opens
        (known k) (deep_conditional place),
  ),
)

pub deep_expression : (k : ℕ) → Deep k (expression_at k)
deep_expression k = deep_expression_in k (values k) (known k)

pub deep_simple : (k : ℕ) → Deep k (simple_at k)
deep_simple k = deep_simple_in k (values k) (known k)

pub deep_name : (k : ℕ) → Deep k (name_at k)
deep_name k = deep_name_in k (values k) (known k)
