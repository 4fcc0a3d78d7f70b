-- Expressions are read exactly.
use Rattle.lexer.specs.declared.token.TokenKind.TheVariants as kinds
use Rattle.lexer.specs.declared.word.Word.TheVariants as words
use Rattle.ada_tree.specs.declared.expression.UnaryOperator.TheVariants as unary
use Rattle.ada_tree.specs.declared.expression.BinaryOperator.TheVariants as binary
use Rattle.std.proofs.Common.{◌≡◌, ℕ, Bool, true, false, cond, List, [], ◌∷◌, ◌++◌, Option, Some, None, refl, sym, ap, subst, ◌∙◌, append_assoc, inl, inr, ◌⊎◌}
use Rattle.std.proofs.lemmas.List.{append-nil}
use denote.Enum.Bare.{same_true, true_same}
use Rattle.lexer.specs.declared.token.Token.{Token}
use Rattle.lexer.specs.declared.token.TokenKind.{TokenKind}
use Rattle.lexer.specs.declared.word.Word.{Word}
use Rattle.ada_tree.specs.declared.expression.UnaryOperator.{UnaryOperator}
use Rattle.ada_tree.specs.declared.expression.BinaryOperator.{BinaryOperator}
use Rattle.ada_tree.specs.contracts.expression.BinaryOperator.{the_type}
use Rattle.ada_tree.specs.ExpressionTree.{ExprTree, Number, Named, Parenthesized, Conditional, Unary, Binary}
use Rattle.ada_tree.specs.Language.{Tokens, ◌⨾◌, word, each}
use Rattle.ada_tree.specs.ExpressionGrammar.{Production, Primary, Factor, Term, Simple, Relation, Chain, Expression, production, unary_production, stands_for}
use Rattle.ada_tree.specs.ExpressionGrammar.{operator, derives}
use Rattle.parser.specs.Reading.{Reader, first, is_kind, is_next, is_first, is_word, skip_word, seq, mapped, choose, many, after, closed, nothing}
use Rattle.parser.specs.ExpressionReading.{ExpressionReaders, folded, relation_in, starts_logical, begins_logical, with_more, logical_of, first_word, second_word}
use Rattle.parser.specs.ExpressionReading.{optional_word, repeated, operated, logical_chain, logical_in, expression_in}
use Rattle.parser.proofs.general.Exact.{Exact, Free, Both, exact_seq, exact_behind, exact_mapped, exact_told, exact_either, exact_closed, Closed, exact_nothing}
use Rattle.parser.proofs.general.Exact.{is_itself, is_that_kind, no_such, not_both, true_or_false}
use Rattle.parser.proofs.general.Several.{exact_skipped, ManyStops, exact_many, Below, kind_ends, first_then, first_token, first_of, apart, Ends, ends_both}
use Rattle.parser.proofs.general.Several.{ends_left, ends_right}
use Rattle.parser.proofs.expressions.Expressions.{continues_relation, starts, first_made, Exacts, ExpressionStops}
use Rattle.parser.proofs.expressions.Operations.{Widens, widen, binary_made, binary_parts, folded_more, each_more}
use Rattle.parser.proofs.expressions.Relations.{exact_relation}

-- ---- logical operators

abbrev pub logical_with : BinaryOperator → Tokens → Type 0
logical_with binary.And ts = word words.And ts
logical_with binary.AndThen ts = (word words.And ⨾ word words.Then) ts
logical_with binary.Or ts = word words.Or ts
logical_with binary.OrElse ts = (word words.Or ⨾ word words.Else) ts
logical_with binary.Xor ts = word words.Xor ts
logical_with o ts = ⊥

abbrev or_with : BinaryOperator → Tokens → Type 0
or_with binary.Or ts = word words.Or ts
or_with binary.OrElse ts = (word words.Or ⨾ word words.Else) ts
or_with binary.Xor ts = word words.Xor ts
or_with o ts = ⊥

abbrev pub OperatorStops : BinaryOperator → Option Token → Type 0
OperatorStops binary.And t = is_word words.Then t ≡ false
OperatorStops binary.Or t = is_word words.Else t ≡ false
OperatorStops o t = Unit {0}

abbrev MoreStops : BinaryOperator → Word → BinaryOperator → Option Token → Type 0
MoreStops short more o t = (o ≡ short) → is_word more t ≡ false

module _ (short : BinaryOperator) (more : Word) (long : BinaryOperator) (differ : short ≡ long → ⊥) where
  abbrev More : BinaryOperator → Tokens → Type 0
  More o ts = ((o ≡ long) × word more ts) ⊎ ((o ≡ short) × (ts ≡ []))

  exact_with_more : Exact (with_more short more long) More (MoreStops short more)
  exact_with_more =
      exact_either (is_word more) (mapped (λ x. long) (skip_word more)) (nothing short) (λ o ts. (o ≡ long) × word more ts) (λ o ts. (o ≡ short) × (ts ≡ []))
      More Free Free (MoreStops short more)
      (exact_mapped (λ x. long) (skip_word more) (λ _. word more) (λ o ts. (o ≡ long) × word more ts) Free Free
      (exact_skipped (kinds.Word more) (is_itself more))
      (λ x ts g. (refl, g)) (λ y ts g. (tt, g.1, sym g.0)) (λ x ts o g st. tt) (λ x ts o g st. tt))
      (exact_nothing short)
      (λ x s r g st p. (inl g, λ is. absurd (differ (sym is ∙ g.0))))
      (λ x s r g st p. (inr g, λ is. subst (λ (z : Tokens). is_word more (first (z ++ r)) ≡ false) g.1 p))
      (λ x s r g st. elim g [
        | inl w ↦ inl (first_token (is_kind (kinds.Word more)) (kinds.Word more) s r w.1 ∙ is_itself more, w, tt)
        | inr w ↦ inr (subst (λ (z : Tokens). is_word more (first (z ++ r)) ≡ false) (sym w.1) (st w.0), w, tt)
      ])

  abbrev Words : Word → BinaryOperator → Tokens → Type 0
  Words w o ts = ((o ≡ long) × (word w ⨾ word more) ts) ⊎ ((o ≡ short) × word w ts)

  words_to : (w : Word) (x : Unit {0} × BinaryOperator) (ts : Tokens) → (word w ⨾ More x.1) ts → Words w x.1 ts
  words_to w x ts g =
      elim g.4 [
        | inl h ↦ inl (h.0, (g.0, g.1, g.2, g.3, h.1))
        | inr h ↦ inr (h.0, subst (word w) (sym (g.2 ∙ ap (λ (z : Tokens). g.0 ++ z) h.1 ∙ append-nil g.0)) g.3)
      ]

  words_back : (w : Word) (y : BinaryOperator) (ts : Tokens) → Words w y ts → (x : Unit {0} × BinaryOperator) × (word w ⨾ More x.1) ts × (x.1 ≡ y)
  words_back w y ts (inl h) = let g = h.1 in ((tt, y), (g.0, g.1, g.2, g.3, inl (h.0, g.4)), refl)
  words_back w y ts (inr h) = ((tt, y), (ts, [], sym (append-nil ts), h.1, inr (h.0, refl)), refl)

  exact_words : (w : Word) → Exact (mapped (λ x. x.1) (seq (skip_word w) (with_more short more long))) (Words w) (MoreStops short more)
  exact_words w =
      exact_mapped (λ x. x.1) (seq (skip_word w) (with_more short more long)) (Both (λ _. word w) More) (Words w) (λ x. MoreStops short more x.1)
      (MoreStops short more)
      (exact_seq (skip_word w) (with_more short more long) (λ _. word w) More Free (MoreStops short more) (λ x. MoreStops short more x.1)
      (exact_skipped (kinds.Word w) (is_itself w)) exact_with_more (λ x y v r g st. (tt, st)) (λ x y v r g st t. t))
      (words_to w) (words_back w) (λ x ts o g st. st) (λ x ts o g st. st)

and_differ : binary.And ≡ binary.AndThen → ⊥
and_differ h = cc

or_differ : binary.Or ≡ binary.OrElse → ⊥
or_differ h = cc

abbrev and_words : BinaryOperator → Tokens → Type 0
and_words = Words binary.And words.Then binary.AndThen and_differ words.And

abbrev or_words : BinaryOperator → Tokens → Type 0
or_words = Words binary.Or words.Else binary.OrElse or_differ words.Or

abbrev xor_word : BinaryOperator → Tokens → Type 0
xor_word o ts = (o ≡ binary.Xor) × word words.Xor ts

abbrev or_of : Reader BinaryOperator
or_of = mapped (λ x. x.1) (seq (skip_word words.Or) (with_more binary.Or words.Else binary.OrElse))

abbrev and_of : Reader BinaryOperator
and_of = mapped (λ x. x.1) (seq (skip_word words.And) (with_more binary.And words.Then binary.AndThen))

abbrev xor_of : Reader BinaryOperator
xor_of = mapped (λ x. binary.Xor) (skip_word words.Xor)

exact_xor : Exact xor_of xor_word Free
exact_xor =
    exact_mapped (λ x. binary.Xor) (skip_word words.Xor) (λ _. word words.Xor) xor_word Free Free (exact_skipped (kinds.Word words.Xor) refl)
    (λ x ts g. (refl, g)) (λ y ts g. (tt, g.1, sym g.0)) (λ x ts o g st. tt) (λ x ts o g st. tt)

or_out : (x : BinaryOperator) (s : Tokens) (t : Option Token) → or_words x s → MoreStops binary.Or words.Else x t → or_with x s × OperatorStops x t
or_out x s t (inl g) st = subst (λ (z : BinaryOperator). or_with z s × OperatorStops z t) (sym g.0) (g.1, tt)
or_out x s t (inr g) st = subst (λ (z : BinaryOperator). or_with z s × OperatorStops z t) (sym g.0) (g.1, st g.0)

xor_out : (x : BinaryOperator) (s : Tokens) (t : Option Token) → xor_word x s → or_with x s × OperatorStops x t
xor_out x s t g = subst (λ (z : BinaryOperator). or_with z s × OperatorStops z t) (sym g.0) (g.1, tt)

which_or : (x : BinaryOperator) (s r : Tokens) → or_with x s → OperatorStops x (first r)
    → ((is_word words.Or (first (s ++ r)) ≡ true) × or_words x s × MoreStops binary.Or words.Else x (first r))
    ⊎ ((is_word words.Or (first (s ++ r)) ≡ false) × xor_word x s × Unit {0})
which_or binary.Or s r g st = inl (first_token (is_kind (kinds.Word words.Or)) (kinds.Word words.Or) s r g, inr (refl, g), λ is. st)
which_or binary.OrElse s r g st = inl (first_of (is_kind (kinds.Word words.Or)) (kinds.Word words.Or) _ s r g, inl (refl, g), λ is. absurd (or_differ (sym is)))
which_or binary.Xor s r g st = inr (first_token (is_kind (kinds.Word words.Or)) (kinds.Word words.Xor) s r g, (refl, g), tt)
which_or x s r g st = absurd g

exact_or : Exact (choose (is_word words.Or) or_of xor_of) or_with OperatorStops
exact_or =
    exact_either (is_word words.Or) or_of xor_of or_words xor_word or_with (MoreStops binary.Or words.Else) Free OperatorStops
    (exact_words binary.Or words.Else binary.OrElse or_differ words.Or) exact_xor
    (λ x s r g st p. or_out x s (first r) g st) (λ x s r g st p. xor_out x s (first r) g) which_or

and_out : (x : BinaryOperator) (s : Tokens) (t : Option Token) → and_words x s → MoreStops binary.And words.Then x t → logical_with x s × OperatorStops x t
and_out x s t (inl g) st = subst (λ (z : BinaryOperator). logical_with z s × OperatorStops z t) (sym g.0) (g.1, tt)
and_out x s t (inr g) st = subst (λ (z : BinaryOperator). logical_with z s × OperatorStops z t) (sym g.0) (g.1, st g.0)

or_logical : (x : BinaryOperator) (s : Tokens) → or_with x s → logical_with x s
or_logical binary.Or s g = g
or_logical binary.OrElse s g = g
or_logical binary.Xor s g = g
or_logical x s g = absurd g

which_logical : (x : BinaryOperator) (s r : Tokens) → logical_with x s → OperatorStops x (first r)
    → ((is_word words.And (first (s ++ r)) ≡ true) × and_words x s × MoreStops binary.And words.Then x (first r))
    ⊎ ((is_word words.And (first (s ++ r)) ≡ false) × or_with x s × OperatorStops x (first r))
which_logical binary.And s r g st = inl (first_token (is_kind (kinds.Word words.And)) (kinds.Word words.And) s r g, inr (refl, g), λ is. st)
which_logical binary.AndThen s r g st =
    inl (first_of (is_kind (kinds.Word words.And)) (kinds.Word words.And) _ s r g, inl (refl, g), λ is. absurd (and_differ (sym is)))
which_logical binary.Or s r g st = inr (first_token (is_kind (kinds.Word words.And)) (kinds.Word words.Or) s r g, g, st)
which_logical binary.OrElse s r g st = inr (first_of (is_kind (kinds.Word words.And)) (kinds.Word words.Or) _ s r g, g, st)
which_logical binary.Xor s r g st = inr (first_token (is_kind (kinds.Word words.And)) (kinds.Word words.Xor) s r g, g, st)
which_logical x s r g st = absurd g

pub exact_logical_of : Exact logical_of logical_with OperatorStops
exact_logical_of =
    exact_either (is_word words.And) and_of (choose (is_word words.Or) or_of xor_of) and_words or_with logical_with (MoreStops binary.And words.Then)
    OperatorStops OperatorStops
    (exact_words binary.And words.Then binary.AndThen and_differ words.And) exact_or
    (λ x s r g st p. and_out x s (first r) g st) (λ x s r g st p. (or_logical x s g, st)) which_logical

-- ---- facts on logical operators

abbrev pub is_logical : BinaryOperator → Bool
is_logical binary.And = true
is_logical binary.AndThen = true
is_logical binary.Or = true
is_logical binary.OrElse = true
is_logical binary.Xor = true
is_logical o = false

pub logical_is : (o : BinaryOperator) (ts : Tokens) → logical_with o ts → is_logical o ≡ true
logical_is binary.And ts g = refl
logical_is binary.AndThen ts g = refl
logical_is binary.Or ts g = refl
logical_is binary.OrElse ts g = refl
logical_is binary.Xor ts g = refl
logical_is o ts g = absurd g

logical_operator : (o : BinaryOperator) (ts : Tokens) → logical_with o ts → operator o ts
logical_operator binary.And ts g = g
logical_operator binary.AndThen ts g = g
logical_operator binary.Or ts g = g
logical_operator binary.OrElse ts g = g
logical_operator binary.Xor ts g = g
logical_operator o ts g = absurd g

operator_logical : (o : BinaryOperator) (ts : Tokens) → is_logical o ≡ true → operator o ts → logical_with o ts
operator_logical binary.And ts h g = g
operator_logical binary.AndThen ts h g = g
operator_logical binary.Or ts h g = g
operator_logical binary.OrElse ts h g = g
operator_logical binary.Xor ts h g = g
operator_logical o ts h g = absurd cc

logical_production : (o : BinaryOperator) → is_logical o ≡ true → production o ≡ Chain o
logical_production binary.And h = refl
logical_production binary.AndThen h = refl
logical_production binary.Or h = refl
logical_production binary.OrElse h = refl
logical_production binary.Xor h = refl
logical_production o h = absurd cc

not_logical : (o : BinaryOperator) → stands_for (production o) Relation ≡ true → is_logical o ≡ false
not_logical binary.And h = absurd cc
not_logical binary.AndThen h = absurd cc
not_logical binary.Or h = absurd cc
not_logical binary.OrElse h = absurd cc
not_logical binary.Xor h = absurd cc
not_logical o h = refl

relation_stands : (o : BinaryOperator) → is_logical o ≡ false → stands_for (production o) Relation ≡ true
relation_stands binary.And h = absurd cc
relation_stands binary.AndThen h = absurd cc
relation_stands binary.Or h = absurd cc
relation_stands binary.OrElse h = absurd cc
relation_stands binary.Xor h = absurd cc
relation_stands o h = refl

word_ends : (o : BinaryOperator) → continues_relation (kinds.Word (first_word o)) ≡ false
word_ends binary.And = refl
word_ends o = refl

word_starts : (o : BinaryOperator) → starts_logical (kinds.Word (first_word o)) ≡ true
word_starts binary.And = refl
word_starts o = refl

logical_first : (o : BinaryOperator) (s r : Tokens) (q : TokenKind → Bool) → logical_with o s → is_next q (first (s ++ r)) ≡ q (kinds.Word (first_word o))
logical_first binary.And s r q g = first_token q (kinds.Word words.And) s r g
logical_first binary.AndThen s r q g = first_of q (kinds.Word words.And) _ s r g
logical_first binary.Or s r q g = first_token q (kinds.Word words.Or) s r g
logical_first binary.OrElse s r q g = first_of q (kinds.Word words.Or) _ s r g
logical_first binary.Xor s r q g = first_token q (kinds.Word words.Xor) s r g
logical_first o s r q g = absurd g

logical_goes : (k : TokenKind) → starts_logical k ≡ true → continues_relation k ≡ false
logical_goes (kinds.Word words.And) h = refl
logical_goes (kinds.Word words.Or) h = refl
logical_goes (kinds.Word words.Xor) h = refl
logical_goes k h = absurd cc

-- ---- the same operator again

abbrev pub optionally : Option Word → Tokens → Type 0
optionally None ts = ts ≡ []
optionally (Some w) ts = word w ts

exact_optional : (m : Option Word) → Exact (optional_word m) (λ _. optionally m) Free
exact_optional None =
    exact_told (nothing tt) (λ y ts. (y ≡ tt) × (ts ≡ [])) (λ _. optionally None) Free Free (exact_nothing tt) (λ y ts g. g.1) (λ y ts g. (refl, g))
    (λ x ts o g st. tt) (λ x ts o g st. tt)
exact_optional (Some w) = exact_skipped (kinds.Word w) (is_itself w)

repeated_to : (o : BinaryOperator) (ts : Tokens) → is_logical o ≡ true → (word (first_word o) ⨾ optionally (second_word o)) ts → logical_with o ts
repeated_to binary.And ts h g = subst (word words.And) (sym (g.2 ∙ ap (λ (z : Tokens). g.0 ++ z) g.4 ∙ append-nil g.0)) g.3
repeated_to binary.AndThen ts h g = g
repeated_to binary.Or ts h g = subst (word words.Or) (sym (g.2 ∙ ap (λ (z : Tokens). g.0 ++ z) g.4 ∙ append-nil g.0)) g.3
repeated_to binary.OrElse ts h g = g
repeated_to binary.Xor ts h g = subst (word words.Xor) (sym (g.2 ∙ ap (λ (z : Tokens). g.0 ++ z) g.4 ∙ append-nil g.0)) g.3
repeated_to o ts h g = absurd cc

repeated_back : (o : BinaryOperator) (ts : Tokens) → logical_with o ts → (word (first_word o) ⨾ optionally (second_word o)) ts
repeated_back binary.And ts g = (ts, [], sym (append-nil ts), g, refl)
repeated_back binary.AndThen ts g = g
repeated_back binary.Or ts g = (ts, [], sym (append-nil ts), g, refl)
repeated_back binary.OrElse ts g = g
repeated_back binary.Xor ts g = (ts, [], sym (append-nil ts), g, refl)
repeated_back o ts g = absurd g

abbrev pub words_of : BinaryOperator → Tokens → Type 0
words_of o = word (first_word o) ⨾ optionally (second_word o)

pub exact_words_of : (o : BinaryOperator) → Exact (repeated o) (λ _. words_of o) Free
exact_words_of o =
    exact_mapped (λ x. tt) (seq (skip_word (first_word o)) (optional_word (second_word o))) (Both (λ _. word (first_word o)) (λ _. optionally (second_word o)))
    (λ _. words_of o) Free Free
    (exact_seq (skip_word (first_word o)) (optional_word (second_word o)) (λ _. word (first_word o)) (λ _. optionally (second_word o)) Free Free Free
    (exact_skipped (kinds.Word (first_word o)) (is_itself (first_word o))) (exact_optional (second_word o)) (λ x y v r g st. (tt, tt))
    (λ x y v r g st t. tt))
    (λ x ts g. g) (λ y ts g. ((tt, tt), g, refl)) (λ x ts t g st. tt) (λ x ts t g st. tt)

pub exact_repeated : (o : BinaryOperator) → is_logical o ≡ true → Exact (repeated o) (λ _. logical_with o) Free
exact_repeated o h =
    exact_told (repeated o) (λ _. words_of o) (λ _. logical_with o) Free Free (exact_words_of o) (λ x ts g. repeated_to o ts h g)
    (λ x ts g. repeated_back o ts g) (λ x ts t g st. tt) (λ x ts t g st. tt)

-- ---- a chain of one operator, behind its first operand

abbrev pub next_operand : ℕ → BinaryOperator → ExprTree → Tokens → Type 0
next_operand k o t = logical_with o ⨾ derives Relation (Some k) t

module _ (k : ℕ) (d : Option ExpressionReaders) (b : Below Exacts k d) (o : BinaryOperator) (lo : is_logical o ≡ true) where
  abbrev item : Reader ExprTree
  item = mapped (λ x. x.1) (seq (repeated o) (relation_in d))

  pub exact_next_operand : Exact item (next_operand k o) (λ _. Ends continues_relation)
  exact_next_operand =
      exact_mapped (λ x. x.1) (seq (repeated o) (relation_in d)) (Both (λ _. logical_with o) (derives Relation (Some k))) (next_operand k o)
      (λ x. Ends continues_relation) (λ _. Ends continues_relation)
      (exact_seq (repeated o) (relation_in d) (λ _. logical_with o) (derives Relation (Some k)) Free (λ _. Ends continues_relation)
      (λ x. Ends continues_relation) (exact_repeated o lo) (exact_relation k d b) (λ x y v r g st. (tt, st)) (λ x y v r g st t. t))
      (λ x ts g. g) (λ y ts g. ((tt, y), g, refl)) (λ x ts t g st. st) (λ x ts t g st. st)

  pub operand_first : (x : ExprTree) (s r : Tokens) → next_operand k o x s → is_word (first_word o) (first (s ++ r)) ≡ true
  operand_first x s r g =
      first_then (is_kind (kinds.Word (first_word o))) true (logical_with o) _ s r (λ u r h. logical_first o u r (is_kind (kinds.Word (first_word o))) h
      ∙ is_itself (first_word o)) g

  pub operand_goes : (t : Option Token) → is_word (first_word o) t ≡ true → Ends continues_relation t
  operand_goes t h = kind_ends (kinds.Word (first_word o)) continues_relation t (word_ends o) h

  abbrev Stop : Option Token → Type 0
  Stop t = (is_word (first_word o) t ≡ false) × Ends continues_relation t

  stops_in : (xs : List ExprTree) (v r : Tokens) → each (next_operand k o) xs v → Stop (first r)
      → Ends continues_relation (first (v ++ r)) × ManyStops (is_word (first_word o)) (Ends continues_relation) xs (first r)
  stops_in [] v r g st = (subst (λ (z : Tokens). Ends continues_relation (first (z ++ r))) (sym g) st.1, st.0)
  stops_in (x ∷ xs) v r g st = (
    operand_goes (first (v ++ r))
        (first_then (is_kind (kinds.Word (first_word o))) true (next_operand k o x) (each (next_operand k o) xs) v r (operand_first x) g),
    st,
  )

  stops_out : (xs : List ExprTree) (v r : Tokens) → each (next_operand k o) xs v → Ends continues_relation (first (v ++ r))
      → ManyStops (is_word (first_word o)) (Ends continues_relation) xs (first r) → Stop (first r)
  stops_out [] v r g st m = (m, subst (λ (z : Tokens). Ends continues_relation (first (z ++ r))) g st)
  stops_out (x ∷ xs) v r g st m = m

  pub exact_operands : Exact (seq (relation_in d) (many (is_word (first_word o)) item)) (Both (derives Relation (Some k)) (each (next_operand k o))) (λ _. Stop)
  exact_operands =
      exact_seq (relation_in d) (many (is_word (first_word o)) item) (derives Relation (Some k)) (each (next_operand k o)) (λ _. Ends continues_relation)
      (ManyStops (is_word (first_word o)) (Ends continues_relation)) (λ _. Stop)
      (exact_relation k d b) (exact_many (is_word (first_word o)) item (next_operand k o) (Ends continues_relation) exact_next_operand operand_first
      operand_goes refl)
      (λ x y v r g st. stops_in y v r g st) (λ x y v r g st t. stops_out y v r g st t)

  abbrev ChainWith : ExprTree → ExprTree → Tokens → Type 0
  ChainWith left e ts =
      (x : ExprTree) × (xs : List ExprTree) × (e ≡ folded (operated o) (Binary o left x) xs) × (derives Relation (Some k) x ⨾ each (next_operand k o) xs) ts

  exact_logical_chain : (left : ExprTree) → Exact (logical_chain d left o) (ChainWith left) (λ _. Stop)
  exact_logical_chain left =
      exact_mapped (λ x. folded (operated o) (Binary o left x.0) x.1) (seq (relation_in d) (many (is_word (first_word o)) item))
      (Both (derives Relation (Some k)) (each (next_operand k o))) (ChainWith left) (λ _. Stop) (λ _. Stop)
      exact_operands (λ x ts g. (x.0, x.1, refl, g)) (λ y ts g. ((g.0, g.1), g.3, sym g.2)) (λ x ts t g st. st) (λ x ts t g st. st)

-- ---- which words may follow a tree

-- the words that go on with it
abbrev pub again : ExprTree → TokenKind → Bool
again (Binary o left right) k = cond (is_logical o) (is_kind (kinds.Word (first_word o)) k) (starts_logical k)
again e k = starts_logical k

abbrev is_chain : ExprTree → Bool
is_chain (Binary o left right) = is_logical o
is_chain e = false

again_chain : (o : BinaryOperator) (left right : ExprTree) (xs : List ExprTree) (t : Option Token) → is_logical o ≡ true
    → is_next (again (folded (operated o) (Binary o left right) xs)) t ≡ is_first (kinds.Word (first_word o)) t
again_chain o left right [] None h = refl
again_chain o left right [] (Some t) h = ap (λ (b : Bool). cond b (is_kind (kinds.Word (first_word o)) t.kind) (starts_logical t.kind)) h
again_chain o left right (x ∷ xs) t h = again_chain o (Binary o left right) x xs t h

chain_is : (o : BinaryOperator) (left right : ExprTree) (xs : List ExprTree) → is_logical o ≡ true
    → is_chain (folded (operated o) (Binary o left right) xs) ≡ true
chain_is o left right [] h = h
chain_is o left right (x ∷ xs) h = chain_is o (Binary o left right) x xs h

again_relation : (k : ℕ) (e : ExprTree) (ts : Tokens) (t : Option Token) → derives Relation (Some k) e ts → is_next (again e) t ≡ is_next starts_logical t
again_relation k e ts None g = refl
again_relation k (Binary o left right) ts (Some t) g =
    ap (λ (b : Bool). cond b (is_kind (kinds.Word (first_word o)) t.kind) (starts_logical t.kind)) (not_logical o g.0)
again_relation k e ts (Some t) g = refl

relation_alone : (k : ℕ) (e : ExprTree) (ts : Tokens) → derives Relation (Some k) e ts → is_chain e ≡ false
relation_alone k (Binary o left right) ts g = not_logical o g.0
relation_alone k e ts g = refl

word_less : (o : BinaryOperator) (k : TokenKind) → starts_logical k ≡ false → is_kind (kinds.Word (first_word o)) k ≡ false
word_less o k h =
    elim (true_or_false (is_kind (kinds.Word (first_word o)) k)) [
      | inr f ↦ f
      | inl e ↦ not_both (starts_logical k) (ap starts_logical (is_that_kind (kinds.Word (first_word o)) k e) ∙ word_starts o) h
    ]

either_false : (b c d : Bool) → c ≡ false → d ≡ false → cond b c d ≡ false
either_false true c d h i = h
either_false false c d h i = i

again_less : (e : ExprTree) (t : Option Token) → Ends starts_logical t → Ends (again e) t
again_less e None h = refl
again_less (Binary o left right) (Some t) h =
    either_false (is_logical o) (is_kind (kinds.Word (first_word o)) t.kind) (starts_logical t.kind) (word_less o t.kind h) h
again_less e (Some t) h = h

-- ---- an operator and its chain

abbrev Chained : ℕ → ExprTree → ExprTree → Tokens → Type 0
Chained k left e ts =
    (o : BinaryOperator) × (x : ExprTree) × (xs : List ExprTree) × (e ≡ folded (operated o) (Binary o left x) xs)
    × (logical_with o ⨾ (derives Relation (Some k) x ⨾ each (next_operand k o) xs)) ts

abbrev ChainStops : ExprTree → Option Token → Type 0
ChainStops e t = Ends (again e) t × Ends continues_relation t

chained_logical : (k : ℕ) (left e : ExprTree) (ts : Tokens) (g : Chained k left e ts) → is_logical g.0 ≡ true
chained_logical k left e ts g = logical_is g.0 g.4.0 g.4.3

chained_chain : (k : ℕ) (left e : ExprTree) (ts : Tokens) → Chained k left e ts → is_chain e ≡ true
chained_chain k left e ts g = ap is_chain g.3 ∙ chain_is g.0 left g.1 g.2 (chained_logical k left e ts g)

chained_first : (k : ℕ) (left e : ExprTree) (s r : Tokens) → Chained k left e s → is_next starts_logical (first (s ++ r)) ≡ true
chained_first k left e s r g = first_then starts_logical true (logical_with g.0) _ s r (λ u r h. logical_first g.0 u r starts_logical h ∙ word_starts g.0) g.4

operator_stops : (o : BinaryOperator) (t : Option Token) → is_next starts t ≡ true → OperatorStops o t
operator_stops binary.And t h = no_such (kinds.Word words.Then) starts t refl h
operator_stops binary.Or t h = no_such (kinds.Word words.Else) starts t refl h
operator_stops o t h = tt

again_is : (o : BinaryOperator) (left e x : ExprTree) (xs : List ExprTree) (t : Option Token) → is_logical o ≡ true
    → e ≡ folded (operated o) (Binary o left x) xs → is_next (again e) t ≡ is_first (kinds.Word (first_word o)) t
again_is o left e x xs t lo is = ap (λ (z : ExprTree). is_next (again z) t) is ∙ again_chain o left x xs t lo

exact_chained : (k : ℕ) (d : Option ExpressionReaders) (left : ExprTree) → Below Exacts k d → Exact (after logical_of (logical_chain d left)) (Chained k left) ChainStops
exact_chained k d left b =
    exact_behind logical_of (logical_chain d left) logical_with With OperatorStops (λ o e t. (is_word (first_word o) t ≡ false) × Ends continues_relation t)
    (Chained k left) ChainStops
    exact_logical_of (λ o u g. exact_logical_chain k d b o (logical_is o u g) left)
    (λ o e u v g h. (o, h.0, h.1, h.2, (u, v, refl, g, h.3)))
    (λ e ts g. let p = g.4 in (g.0, (p.0, p.1, p.2, p.3, (g.1, g.2, g.3, p.4))))
    (λ o e u v r g h st. (
      operator_stops o (first (v ++ r)) (first_then starts true (derives Relation (Some k) h.0) _ v r (λ u r i. first_made h.0 (Some k) u r i.1) h.3),
      (sym (again_is o left e h.0 h.1 (first r) (logical_is o u g) h.2) ∙ st.0, st.1),
    ))
    (λ o e u v r g h sa sb. (again_is o left e h.0 h.1 (first r) (logical_is o u g) h.2 ∙ sb.0, sb.1))
  where
    With : BinaryOperator → ExprTree → Tokens → Type 0
    With o e ts =
        (x : ExprTree) × (xs : List ExprTree) × (e ≡ folded (operated o) (Binary o left x) xs) × (derives Relation (Some k) x ⨾ each (next_operand k o) xs) ts

-- ---- what may follow the first relation

abbrev same_here : ExprTree → ExprTree → Tokens → Type 0
same_here left e ts = (e ≡ left) × (ts ≡ [])

abbrev Rest : ℕ → ExprTree → ExprTree → Tokens → Type 0
Rest k left e ts = Chained k left e ts ⊎ same_here left e ts

abbrev RestStops : ExprTree → Option Token → Type 0
RestStops e t = Ends (again e) t × (is_chain e ≡ true → Ends continues_relation t)

exact_rest : (k : ℕ) (d : Option ExpressionReaders) (left : ExprTree) (u : Tokens) → Below Exacts k d → derives Relation (Some k) left u
    → Exact (logical_in d left) (Rest k left) RestStops
exact_rest k d left u b whole =
    exact_either begins_logical (after logical_of (logical_chain d left)) (nothing left) (Chained k left) (same_here left) (Rest k left) ChainStops Free
    RestStops
    (exact_chained k d left b) (exact_nothing left)
    (λ x s r g st p. (inl g, (st.0, λ t. st.1)))
    (λ x s r g st p. (
      inr g,
      (
        ap (λ (z : ExprTree). is_next (again z) (first r)) g.0 ∙ again_relation k left u (first r) whole
            ∙ subst (λ (z : Tokens). begins_logical (first (z ++ r)) ≡ false) g.1 p,
        λ t. not_both (is_chain x) t (ap is_chain g.0 ∙ relation_alone k left u whole),
      ),
    ))
    (λ x s r g st. elim g [
      | inl w ↦ inl (chained_first k left x s r w, w, (st.0, st.1 (chained_chain k left x s w)))
      | inr w ↦
          inr (
            subst (λ (z : Tokens). begins_logical (first (z ++ r)) ≡ false) (sym w.1) (sym (again_relation k left u (first r) whole)
                ∙ ap (λ (z : ExprTree). is_next (again z) (first r)) (sym w.0) ∙ st.0),
            w,
            tt,
          )
    ])

-- ---- the trees of chains

widen_chain : (o : BinaryOperator) → Widens Relation (Chain o)
widen_chain o Primary h = refl
widen_chain o Factor h = refl
widen_chain o Term h = refl
widen_chain o Simple h = refl
widen_chain o Relation h = refl
widen_chain o p h = absurd cc

pub widen_expression : Widens Relation Expression
widen_expression Primary h = refl
widen_expression p h = refl

chain_expression : (o : BinaryOperator) → Widens (Chain o) Expression
chain_expression o Primary h = refl
chain_expression o p h = refl

abbrev ChainOf : ℕ → BinaryOperator → ExprTree → Tokens → Type 0
ChainOf k o e ts = derives (Chain o) (Some k) e ts

chain_itself : (o : BinaryOperator) → stands_for (Chain o) (Chain o) ≡ true
chain_itself o = true_same the_type o o refl

chain_one : (k : ℕ) (o : BinaryOperator) (e t : ExprTree) (u v w : Tokens) → is_logical o ≡ true → ChainOf k o e u → operator o v
    → derives Relation (Some k) t w → ChainOf k o (Binary o e t) (u ++ (v ++ w))
chain_one k o e t u v w lo g h i = binary_made (Chain o) k o e t u v w refl (chain_itself o) (logical_production o lo) g h i

chain_all : (k : ℕ) (o : BinaryOperator) (e : ExprTree) (xs : List ExprTree) (u v : Tokens) → is_logical o ≡ true → ChainOf k o e u
    → each (next_operand k o) xs v → ChainOf k o (folded (operated o) e xs) (u ++ v)
chain_all k o e [] u v lo g h = subst (λ (z : Tokens). ChainOf k o e z) (sym (append-nil u) ∙ ap (λ (z : Tokens). u ++ z) (sym h)) g
chain_all k o e (x ∷ xs) u v lo g h =
    let i = h.3 in
    let made_one : ChainOf k o (Binary o e x) (u ++ (i.0 ++ i.1)) = chain_one k o e x u i.0 i.1 lo g (logical_operator o i.0 i.3) i.4 in
    let first_part : ChainOf k o (Binary o e x) (u ++ h.0) = subst (λ (z : Tokens). ChainOf k o (Binary o e x) (u ++ z)) (sym i.2) made_one in
    subst (λ (z : Tokens). ChainOf k o (folded (operated o) (Binary o e x) xs) z) (append_assoc u h.0 h.1 ∙ ap (λ (z : Tokens). u ++ z) (sym h.2))
    (chain_all k o (Binary o e x) xs (u ++ h.0) h.1 lo first_part h.4)

-- a first operand, and the others
abbrev Operands : ℕ → BinaryOperator → ExprTree → Tokens → Type 0
Operands k o e ts =
    (left : ExprTree) × (x : ExprTree) × (xs : List ExprTree) × (e ≡ folded (operated o) (Binary o left x) xs)
    × (derives Relation (Some k) left ⨾ (logical_with o ⨾ (derives Relation (Some k) x ⨾ each (next_operand k o) xs))) ts

operands_more : (k : ℕ) (o : BinaryOperator) (l r : ExprTree) (u v w : Tokens) → Operands k o l u → logical_with o v → derives Relation (Some k) r w
    → Operands k o (Binary o l r) (u ++ (v ++ w))
operands_more k o l r u v w d g h =
    let p = d.4 in
    let q = p.4 in
    let s = q.4 in
    let end = v ++ w in
    let inner : q.1 ++ end ≡ s.0 ++ (s.1 ++ end) = ap (λ (z : Tokens). z ++ end) s.2 ∙ append_assoc s.0 s.1 end in
    let middle : p.1 ++ end ≡ q.0 ++ (q.1 ++ end) = ap (λ (z : Tokens). z ++ end) q.2 ∙ append_assoc q.0 q.1 end in
    let outer : u ++ end ≡ p.0 ++ (p.1 ++ end) = ap (λ (z : Tokens). z ++ end) p.2 ∙ append_assoc p.0 p.1 end in (
      d.0,
      d.1,
      d.2 ++ (r ∷ []),
      ap (λ (z : ExprTree). Binary o z r) d.3 ∙ sym (folded_more (operated o) (Binary o d.0 d.1) d.2 r),
      (
        p.0,
        p.1 ++ end,
        outer,
        p.3,
        (q.0, q.1 ++ end, middle, q.3, (s.0, s.1 ++ end, inner, s.3, each_more (next_operand k o) d.2 r s.1 end s.4 (v, w, refl, g, h))),
      ),
    )

chain_operator : (o p : BinaryOperator) → stands_for (production p) (Chain o) ≡ true → (stands_for (production p) Relation ≡ true) ⊎ (p ≡ o)
chain_operator o binary.And h = inr (same_true the_type tt binary.And o h)
chain_operator o binary.AndThen h = inr (same_true the_type tt binary.AndThen o h)
chain_operator o binary.Or h = inr (same_true the_type tt binary.Or o h)
chain_operator o binary.OrElse h = inr (same_true the_type tt binary.OrElse o h)
chain_operator o binary.Xor h = inr (same_true the_type tt binary.Xor o h)
chain_operator o p h = inl refl

unary_relation : (o : UnaryOperator) → stands_for (unary_production o) Relation ≡ true
unary_relation unary.Plus = refl
unary_relation o = refl

split : (k : ℕ) (o : BinaryOperator) (e : ExprTree) (ts : Tokens) → is_logical o ≡ true → ChainOf k o e ts → derives Relation (Some k) e ts ⊎ Operands k o e ts
split k o (Binary p l r) ts lo g =
    elim (chain_operator o p g.0) [
      | inl h ↦ inl (h, g.1)
      | inr same ↦
          let g' : ChainOf k o (Binary o l r) ts = subst (λ (z : BinaryOperator). ChainOf k o (Binary z l r) ts) same g in
          let q = binary_parts (Chain o) k o l r ts refl (logical_production o lo) g' in
          let i = q.4 in
          let whole : ts ≡ q.0 ++ (i.0 ++ i.1) = q.2 ∙ ap (λ (z : Tokens). q.0 ++ z) i.2 in
          let op : logical_with o i.0 = operator_logical o i.0 lo i.3 in
          subst (λ (z : BinaryOperator). derives Relation (Some k) (Binary z l r) ts ⊎ Operands k o (Binary z l r) ts) (sym same)
          (inr (subst (Operands k o (Binary o l r)) (sym whole)
          (elim (split k o l q.0 lo q.3) [
            | inl alone ↦ (l, r, [], refl, (q.0, i.0 ++ i.1, refl, alone, (i.0, i.1, refl, op, (i.1, [], sym (append-nil i.1), i.4, refl))))
            | inr d ↦ operands_more k o l r q.0 i.0 i.1 d op i.4
          ])))
    ]
split k o (Unary p place e) ts lo g = inl (unary_relation p, g.1)
split k o (Number value place) ts lo g = inl (refl, g.1)
split k o (Named name all) ts lo g = inl (refl, g.1)
split k o (Parenthesized place e) ts lo g = inl (refl, g.1)
split k o (Conditional place condition value others else_value) ts lo g = inl (refl, g.1)

-- ---- expressions

expression_to : (k : ℕ) (x y : ExprTree) (u v : Tokens) → derives Relation (Some k) x u → Rest k x y v → derives Expression (Some k) y (u ++ v)
expression_to k x y u v g (inl w) =
    let o = w.0 in
    let lo = chained_logical k x y v w in
    let p = w.4 in
    let q = p.4 in
    let one : ChainOf k o (Binary o x w.1) (u ++ (p.0 ++ q.0)) =
    chain_one k o x w.1 u p.0 q.0 lo (widen Relation (Chain o) k x u (widen_chain o) g) (logical_operator o p.0 p.3) q.3 in
    let all : ChainOf k o (folded (operated o) (Binary o x w.1) w.2) ((u ++ (p.0 ++ q.0)) ++ q.1) =
    chain_all k o (Binary o x w.1) w.2 (u ++ (p.0 ++ q.0)) q.1 lo one q.4 in
    let whole : (u ++ (p.0 ++ q.0)) ++ q.1 ≡ u ++ v = append_assoc u (p.0 ++ q.0) q.1
    ∙ ap (λ (z : Tokens). u ++ z) (append_assoc p.0 q.0 q.1 ∙ ap (λ (z : Tokens). p.0 ++ z) (sym q.2) ∙ sym p.2) in
    widen (Chain o) Expression k y (u ++ v) (chain_expression o)
    (subst (λ (z : ExprTree). ChainOf k o z (u ++ v)) (sym w.3) (subst (λ (z : Tokens). ChainOf k o (folded (operated o) (Binary o x w.1) w.2) z) whole all))
expression_to k x y u v g (inr w) =
    subst (λ (z : ExprTree). derives Expression (Some k) z (u ++ v)) (sym w.0)
    (subst (λ (z : Tokens). derives Expression (Some k) x z) (sym (ap (λ (z : Tokens). u ++ z) w.1 ∙ append-nil u))
    (widen Relation Expression k x u widen_expression g))

abbrev Parts : ℕ → ExprTree → Tokens → Type 0
Parts k y ts = (x : ExprTree) × (derives Relation (Some k) x ⨾ Rest k x y) ts

one_relation : (k : ℕ) (y : ExprTree) (ts : Tokens) → derives Relation (Some k) y ts → Parts k y ts
one_relation k y ts g = (y, (ts, [], sym (append-nil ts), g, inr (refl, refl)))

expression_back : (k : ℕ) (y : ExprTree) (ts : Tokens) → derives Expression (Some k) y ts → Parts k y ts
expression_back k (Binary o l r) ts g =
    elim (true_or_false (is_logical o)) [
      | inr f ↦ one_relation k (Binary o l r) ts (relation_stands o f, g.1)
      | inl lo ↦
          elim (split k o (Binary o l r) ts lo (ap (λ (z : Production). stands_for z (Chain o)) (logical_production o lo) ∙ chain_itself o, g.1)) [
            | inl h ↦ one_relation k (Binary o l r) ts h
            | inr d ↦ let p = d.4 in (d.0, (p.0, p.1, p.2, p.3, inl (o, d.1, d.2, d.3, p.4)))
          ]
    ]
expression_back k (Unary p place e) ts g = one_relation k (Unary p place e) ts (unary_relation p, g.1)
expression_back k (Number value place) ts g = one_relation k (Number value place) ts (refl, g.1)
expression_back k (Named name all) ts g = one_relation k (Named name all) ts (refl, g.1)
expression_back k (Parenthesized place e) ts g = one_relation k (Parenthesized place e) ts (refl, g.1)
expression_back k (Conditional place condition value others else_value) ts g =
    one_relation k (Conditional place condition value others else_value) ts (refl, g.1)

abbrev pub OpenStops : ExprTree → Option Token → Type 0
OpenStops y t = Ends continues_relation t × Ends (again y) t

expression_fits : (k : ℕ) (x y : ExprTree) (v r : Tokens) → Rest k x y v → OpenStops y (first r)
    → Ends continues_relation (first (v ++ r)) × RestStops y (first r)
expression_fits k x y v r (inl w) st = (apart starts_logical continues_relation logical_goes (first (v ++ r)) (chained_first k x y v r w), (st.1, λ t. st.0))
expression_fits k x y v r (inr w) st = (subst (λ (z : Tokens). Ends continues_relation (first (z ++ r))) (sym w.1) st.0, (st.1, λ t. st.0))

expression_stop : (k : ℕ) (x y : ExprTree) (v r : Tokens) → Rest k x y v → Ends continues_relation (first (v ++ r)) → RestStops y (first r)
    → OpenStops y (first r)
expression_stop k x y v r (inl w) sa sb = (sb.1 (chained_chain k x y v w), sb.0)
expression_stop k x y v r (inr w) sa sb = (subst (λ (z : Tokens). Ends continues_relation (first (z ++ r))) w.1 sa, sb.0)

pub exact_open_expression : (k : ℕ) (d : Option ExpressionReaders) → Below Exacts k d → Exact (after (relation_in d) (logical_in d)) (derives Expression (Some k)) OpenStops
exact_open_expression k d b =
    exact_behind (relation_in d) (logical_in d) (derives Relation (Some k)) (Rest k) (λ _. Ends continues_relation) (λ left. RestStops)
    (derives Expression (Some k)) OpenStops
    (exact_relation k d b) (λ x u g. exact_rest k d x u b g) (expression_to k) (expression_back k)
    (λ x y u v r g h st. expression_fits k x y v r h st) (λ x y u v r g h sa sb. expression_stop k x y v r h sa sb)

pub exact_expression_in : (k : ℕ) (d : Option ExpressionReaders) → Below Exacts k d → Exact (expression_in d) (derives Expression (Some k)) ExpressionStops
unfolding expression_in
exact_expression_in k d b =
    exact_told (closed begins_logical (after (relation_in d) (logical_in d))) (derives Expression (Some k)) (derives Expression (Some k))
    (Closed begins_logical OpenStops) ExpressionStops
    (exact_closed begins_logical (after (relation_in d) (logical_in d)) (derives Expression (Some k)) OpenStops (exact_open_expression k d b))
    (λ x ts g. g) (λ x ts g. g) (λ x ts o g st. ends_both starts_logical continues_relation o st.0 st.1.0)
    (λ x ts o g st. (
      ends_left starts_logical continues_relation o st,
      (ends_right starts_logical continues_relation o st, again_less x o (ends_left starts_logical continues_relation o st)),
    ))
