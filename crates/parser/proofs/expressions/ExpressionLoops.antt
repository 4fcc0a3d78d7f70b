-- The items of the loops of expressions take tokens.
use Rattle.lexer.specs.declared.token.TokenKind.TheVariants as kinds
use Rattle.lexer.specs.declared.word.Word.TheVariants as words
use Rattle.lexer.specs.declared.delimiter.Delimiter.TheVariants as marks
use Rattle.std.proofs.Common.{◌≡◌, ℕ, suc, ◌<◌, ◌≤◌, true, false, [], ◌∷◌, length, Option, Some, None, Ok, refl, sym, ap, ◌∙◌, arith, length-append}
use Rattle.lexer.specs.declared.token.TokenKind.{TokenKind}
use Rattle.ada_tree.specs.declared.expression.BinaryOperator.{BinaryOperator}
use Rattle.ada_tree.specs.ExpressionTree.{ExprTree, SelectorTree, ArgumentTree}
use Rattle.ada_tree.specs.Language.{Tokens}
use Rattle.ada_tree.specs.ExpressionGrammar.{Relation, derives}
use Rattle.parser.specs.declared.refusal.Refusal.{Refusal}
use Rattle.parser.specs.declared.refusal.Refusal.TheVariants as refusals
use Rattle.parser.specs.Reading.{Fails, Reader, first, behind, is_mark, is_word, is_there, taken, mark_of, seq}
use Rattle.parser.specs.ExpressionReading.{next_of, begins, operator_of, values, values_at, argument_in, selector_in, begins_selector, elsif_value_in}
use Rattle.parser.specs.ExpressionReading.{relation_in, repeated}
use Rattle.parser.proofs.general.Exact.{Free}
use Rattle.parser.proofs.general.Several.{Ends, shrinks, next_item, Next, exact_next, next_first, kind_ends}
use Rattle.parser.proofs.general.Loops.{next_read, no_longer, shorter}
use Rattle.parser.proofs.expressions.Expressions.{continues_relation, continues_expression, ArgumentStops, argument_with, exact_argument, comma_ends}
use Rattle.parser.proofs.expressions.Expressions.{selector_with, exact_selector, selector_first}
use Rattle.parser.proofs.expressions.Primaries.{elsif_with, exact_elsif_value, elsif_first}
use Rattle.parser.proofs.expressions.Relations.{exact_relation}
use Rattle.parser.proofs.expressions.Logical.{words_of, exact_words_of}
use Rattle.parser.proofs.expressions.Levelled.{below}

pub argument_smaller : (k : ℕ) (ts middle after : Tokens) (place : ℕ) (x : ArgumentTree) → mark_of marks.Comma ts ≡ Ok (place, middle)
    → argument_in (values_at k) middle ≡ Ok (x, after) → length after < length ts
argument_smaller k ts middle after place x h i =
    let a = argument_in (values_at k) in
    let e = exact_argument k (values_at k) (below (suc k)) in
    shrinks (is_mark marks.Comma) (next_item (kinds.Delimiter marks.Comma) refl a (argument_with k) ArgumentStops e comma_ends)
    (Next (kinds.Delimiter marks.Comma) refl a (argument_with k) ArgumentStops e comma_ends) ArgumentStops
    (exact_next (kinds.Delimiter marks.Comma) refl a (argument_with k) ArgumentStops e comma_ends)
    (next_first (kinds.Delimiter marks.Comma) refl a (argument_with k) ArgumentStops e comma_ends) comma_ends refl
    ts x after (next_read (kinds.Delimiter marks.Comma) a ts middle after place x h i)

pub selector_smaller : (k : ℕ) (ts : Tokens) (x : SelectorTree) (after : Tokens) → selector_in (values k) ts ≡ Ok (x, after) → length after < length ts
selector_smaller k ts x after h =
    shrinks begins_selector (selector_in (values k)) (selector_with k) Free (exact_selector k (values k) (below k)) (selector_first k) (λ x o h. tt) refl ts x
    after h

pub elsif_smaller : (k : ℕ) (ts : Tokens) (x : ExprTree × ExprTree) (after : Tokens) → elsif_value_in (values_at k) ts ≡ Ok (x, after)
    → length after < length ts
elsif_smaller k ts x after h =
    shrinks (is_word words.Elsif) (elsif_value_in (values_at k)) (elsif_with k) (λ _. Ends continues_expression)
    (exact_elsif_value k (values_at k) (below (suc k))) (elsif_first k)
    (λ x o h. kind_ends (kinds.Word words.Elsif) continues_expression o refl h) refl ts x after h

-- an operator of a table, and its operand
pub operator_read : (f : TokenKind → Option BinaryOperator) (a : Reader ExprTree) (ts : Tokens) (o : BinaryOperator) (next after : Tokens) (t : ExprTree)
    → Some o ≡ next_of f (first ts) → next ≡ behind ts → a next ≡ Ok (t, after)
    → seq (operator_of f) a ts ≡ Ok ((o, t), after)
operator_read f a [] o next after t is rest h = absurd cc
operator_read f a (x ∷ ts) o next after t is rest h =
    let e : operator_of f (x ∷ ts) ≡ Ok (o, ts) = ap (λ (m : Option BinaryOperator). taken m x ts) (sym is) in
    rw e (rw (ap a (sym rest) ∙ h) refl)

pub operator_fails : (f : TokenKind → Option BinaryOperator) (a : Reader ExprTree) (ts : Tokens) (o : BinaryOperator) (next : Tokens) (e : Refusal)
    → Some o ≡ next_of f (first ts) → next ≡ behind ts → Fails e (a next) → Fails e (seq (operator_of f) a ts)
operator_fails f a ts o next refusals.Memory is rest h = tt
operator_fails f a [] o next (refusals.Broken d) is rest h = absurd cc
operator_fails f a (x ∷ ts) o next (refusals.Broken d) is rest h =
    let e : operator_of f (x ∷ ts) ≡ Ok (o, ts) = ap (λ (m : Option BinaryOperator). taken m x ts) (sym is) in
    rw e (rw (ap a (sym rest) ∙ h) refl)

pub operator_begins : (f : TokenKind → Option BinaryOperator) (ts : Tokens) (o : BinaryOperator) → Some o ≡ next_of f (first ts) → begins f (first ts) ≡ true
operator_begins f [] o is = absurd cc
operator_begins f (x ∷ ts) o is = ap is_there (sym is)

pub no_operator : (f : TokenKind → Option BinaryOperator) (ts : Tokens) → None ≡ next_of f (first ts) → begins f (first ts) ≡ false
no_operator f [] is = refl
no_operator f (x ∷ ts) is = ap is_there (sym is)

pub operator_smaller : (f : TokenKind → Option BinaryOperator) (ts : Tokens) (o : BinaryOperator) (next after : Tokens) → Some o ≡ next_of f (first ts)
    → next ≡ behind ts → length after ≤ length next → length after < length ts
operator_smaller f [] o next after is rest short = absurd cc
operator_smaller f (x ∷ ts) o next after is rest short = omega (arith, ap length rest)

-- the same logical operator, and its operand
some_words : (o : BinaryOperator) (x : Unit {0}) (s : Tokens) → words_of o s → 0 < length s
some_words o x s g = omega (arith, ap length g.2, length-append g.0 g.1, ap length g.3.1)

pub logical_smaller : (k : ℕ) (o : BinaryOperator) (ts middle after : Tokens) (t : ExprTree) → repeated o ts ≡ Ok (tt, middle)
    → relation_in (values k) middle ≡ Ok (t, after) → length after < length ts
logical_smaller k o ts middle after t h i =
    omega (
      arith,
      shorter (repeated o) (λ _. words_of o) Free ts tt middle (exact_words_of o) (some_words o) h,
      no_longer (relation_in (values k)) (derives Relation (Some k)) (λ _. Ends continues_relation) middle t after (exact_relation k (values k) (below k)) i,
    )
