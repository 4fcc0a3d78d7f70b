-- Relations are read exactly.
use Rattle.lexer.specs.declared.token.TokenKind.TheVariants as kinds
use Rattle.lexer.specs.declared.delimiter.Delimiter.TheVariants as marks
use Rattle.ada_tree.specs.declared.expression.UnaryOperator.TheVariants as unary
use Rattle.ada_tree.specs.declared.expression.BinaryOperator.TheVariants as binary
use Rattle.std.proofs.Common.{◌≡◌, ℕ, Bool, true, false, [], ◌++◌, Option, Some, refl, sym, ap, subst, ◌∙◌, inl, inr, ◌⊎◌}
use Rattle.std.proofs.lemmas.List.{append-nil}
use Rattle.lexer.specs.declared.token.Token.{Token}
use Rattle.lexer.specs.declared.token.TokenKind.{TokenKind}
use Rattle.ada_tree.specs.declared.expression.UnaryOperator.{UnaryOperator}
use Rattle.ada_tree.specs.declared.expression.BinaryOperator.{BinaryOperator}
use Rattle.ada_tree.specs.ExpressionTree.{ExprTree, Number, Named, Parenthesized, Conditional, Unary, Binary}
use Rattle.ada_tree.specs.Language.{Tokens, ◌⨾◌}
use Rattle.ada_tree.specs.ExpressionGrammar.{Production, Simple, Relation, production, unary_production, left_operand, right_operand, stands_for, derives}
use Rattle.parser.specs.Reading.{first, is_next, is_there, seq, mapped, after, closed, nothing}
use Rattle.parser.specs.ExpressionReading.{relational, begins, operator_of, ExpressionReaders, simple_in, compared_in, relation_in}
use Rattle.parser.proofs.general.Exact.{Exact, Free, Both, exact_seq, exact_behind, exact_mapped, exact_told, exact_either, exact_closed, Closed, exact_nothing}
use Rattle.parser.proofs.general.Exact.{not_both}
use Rattle.parser.proofs.general.Several.{Below, first_then, apart, Ends, ends_both, ends_left, ends_right}
use Rattle.parser.proofs.expressions.Expressions.{continues_simple, continues_relation, Exacts}
use Rattle.parser.proofs.expressions.Operations.{widen, widen_relation, operator_with, exact_operator, operator_first, relational_table, exact_simple_in}

abbrev pub compares : TokenKind → Bool
compares k = is_there (relational k)

relational_goes : (k : TokenKind) → is_there (relational k) ≡ true → continues_simple k ≡ false
relational_goes (kinds.Delimiter marks.Equals) h = refl
relational_goes (kinds.Delimiter marks.Inequality) h = refl
relational_goes (kinds.Delimiter marks.LessThan) h = refl
relational_goes (kinds.Delimiter marks.LessOrEqual) h = refl
relational_goes (kinds.Delimiter marks.GreaterThan) h = refl
relational_goes (kinds.Delimiter marks.GreaterOrEqual) h = refl
relational_goes k h = absurd cc

abbrev is_relational : BinaryOperator → Bool
is_relational binary.Equal = true
is_relational binary.NotEqual = true
is_relational binary.Less = true
is_relational binary.LessOrEqual = true
is_relational binary.Greater = true
is_relational binary.GreaterOrEqual = true
is_relational o = false

abbrev is_relation : ExprTree → Bool
is_relation (Binary o left right) = is_relational o
is_relation e = false

relational_is : (o : BinaryOperator) → production o ≡ Relation → is_relational o ≡ true
relational_is binary.Equal h = refl
relational_is binary.NotEqual h = refl
relational_is binary.Less h = refl
relational_is binary.LessOrEqual h = refl
relational_is binary.Greater h = refl
relational_is binary.GreaterOrEqual h = refl
relational_is o h = absurd cc

not_relational : (o : BinaryOperator) → stands_for (production o) Simple ≡ true → is_relational o ≡ false
not_relational binary.Equal h = absurd cc
not_relational binary.NotEqual h = absurd cc
not_relational binary.Less h = absurd cc
not_relational binary.LessOrEqual h = absurd cc
not_relational binary.Greater h = absurd cc
not_relational binary.GreaterOrEqual h = absurd cc
not_relational o h = refl

simple_alone : (k : ℕ) (e : ExprTree) (ts : Tokens) → derives Simple (Some k) e ts → is_relation e ≡ false
simple_alone k (Binary o left right) ts g = not_relational o g.0
simple_alone k e ts g = refl

-- ---- what may follow the first operand

abbrev with_second : ℕ → ExprTree → ExprTree → Tokens → Type 0
with_second k left e ts = (o : BinaryOperator) × (t : ExprTree) × (e ≡ Binary o left t) × (operator_with Relation o ⨾ derives Simple (Some k) t) ts

abbrev same_here : ExprTree → ExprTree → Tokens → Type 0
same_here left e ts = (e ≡ left) × (ts ≡ [])

abbrev compared : ℕ → ExprTree → ExprTree → Tokens → Type 0
compared k left e ts = with_second k left e ts ⊎ same_here left e ts

abbrev ComparedStops : ExprTree → Option Token → Type 0
ComparedStops e t = (is_relation e ≡ false → Ends compares t) × (is_relation e ≡ true → Ends continues_simple t)

second_is : (k : ℕ) (left e : ExprTree) (ts : Tokens) → with_second k left e ts → is_relation e ≡ true
second_is k left e ts g = ap is_relation g.2 ∙ relational_is g.0 g.3.3.0

second_first : (k : ℕ) (left e : ExprTree) (s r : Tokens) → with_second k left e s → is_next compares (first (s ++ r)) ≡ true
second_first k left e s r g =
    first_then compares true (operator_with Relation g.0) _ s r (λ u r h. operator_first relational Relation relational_table g.0 u r h) g.3

exact_second : (k : ℕ) (d : Option ExpressionReaders) (left : ExprTree) → Below Exacts k d
    → Exact (mapped (λ x. Binary x.0 left x.1) (seq (operator_of relational) (simple_in d))) (with_second k left) (λ _. Ends continues_simple)
exact_second k d left b =
    exact_mapped (λ x. Binary x.0 left x.1) (seq (operator_of relational) (simple_in d)) (Both (operator_with Relation) (derives Simple (Some k)))
    (with_second k left) (λ x. Ends continues_simple) (λ _. Ends continues_simple)
    (exact_seq (operator_of relational) (simple_in d) (operator_with Relation) (derives Simple (Some k)) Free (λ _. Ends continues_simple)
    (λ x. Ends continues_simple) (exact_operator relational Relation relational_table) (exact_simple_in k d b)
    (λ x y v r g st. (tt, st)) (λ x y v r g st t. t))
    (λ x ts g. (x.0, x.1, refl, g)) (λ y ts g. ((g.0, g.1), g.3, sym g.2)) (λ x ts o g st. st) (λ x ts o g st. st)

exact_compared : (k : ℕ) (d : Option ExpressionReaders) (left : ExprTree) → Below Exacts k d → is_relation left ≡ false
    → Exact (compared_in d left) (compared k left) ComparedStops
exact_compared k d left b alone =
    exact_either (begins relational) (mapped (λ x. Binary x.0 left x.1) (seq (operator_of relational) (simple_in d))) (nothing left) (with_second k left)
    (same_here left) (compared k left) (λ _. Ends continues_simple) Free ComparedStops
    (exact_second k d left b) (exact_nothing left)
    (λ x s r g st p. (inl g, (λ f. not_both (is_relation x) (second_is k left x s g) f, λ t. st)))
    (λ x s r g st p. (
      inr g,
      (λ f. subst (λ (z : Tokens). begins relational (first (z ++ r)) ≡ false) g.1 p, λ t. not_both (is_relation x) t (ap is_relation g.0 ∙ alone)),
    ))
    (λ x s r g st. elim g [
      | inl w ↦ inl (second_first k left x s r w, w, st.1 (second_is k left x s w))
      | inr w ↦ inr (subst (λ (z : Tokens). begins relational (first (z ++ r)) ≡ false) (sym w.1) (st.0 (ap is_relation w.0 ∙ alone)), w, tt)
    ])

-- ---- relations

relation_to : (k : ℕ) (x y : ExprTree) (u v : Tokens) → derives Simple (Some k) x u → compared k x y v → derives Relation (Some k) y (u ++ v)
relation_to k x y u v g (inl w) =
    let h = w.3 in
    let p : production w.0 ≡ Relation = h.3.0 in
    subst (λ (z : ExprTree). derives Relation (Some k) z (u ++ v)) (sym w.2) (
      ap (λ (z : Production). stands_for z Relation) p,
      (
        u,
        v,
        refl,
        subst (λ (z : Production). derives (left_operand z) (Some k) x u) (sym p) g,
        (h.0, h.1, h.2, h.3.1, subst (λ (z : Production). derives (right_operand z) (Some k) w.1 h.1) (sym p) h.4),
      ),
    )
relation_to k x y u v g (inr w) =
    subst (λ (z : ExprTree). derives Relation (Some k) z (u ++ v)) (sym w.0)
    (subst (λ (z : Tokens). derives Relation (Some k) x z) (sym (ap (λ (z : Tokens). u ++ z) w.1 ∙ append-nil u))
    (widen Simple Relation k x u widen_relation g))

relation_operator : (o : BinaryOperator) → stands_for (production o) Relation ≡ true → (stands_for (production o) Simple ≡ true) ⊎ (production o ≡ Relation)
relation_operator binary.Equal h = inr refl
relation_operator binary.NotEqual h = inr refl
relation_operator binary.Less h = inr refl
relation_operator binary.LessOrEqual h = inr refl
relation_operator binary.Greater h = inr refl
relation_operator binary.GreaterOrEqual h = inr refl
relation_operator binary.And h = absurd cc
relation_operator binary.Or h = absurd cc
relation_operator binary.Xor h = absurd cc
relation_operator binary.AndThen h = absurd cc
relation_operator binary.OrElse h = absurd cc
relation_operator o h = inl refl

unary_simple : (o : UnaryOperator) → stands_for (unary_production o) Simple ≡ true
unary_simple unary.Plus = refl
unary_simple o = refl

abbrev Operands : ℕ → ExprTree → Tokens → Type 0
Operands k y ts = (x : ExprTree) × (derives Simple (Some k) x ⨾ compared k x y) ts

one_operand : (k : ℕ) (y : ExprTree) (ts : Tokens) → derives Simple (Some k) y ts → Operands k y ts
one_operand k y ts g = (y, (ts, [], sym (append-nil ts), g, inr (refl, refl)))

relation_back : (k : ℕ) (y : ExprTree) (ts : Tokens) → derives Relation (Some k) y ts → Operands k y ts
relation_back k (Binary o l r) ts g =
    elim (relation_operator o g.0) [
      | inl h ↦ one_operand k (Binary o l r) ts (h, g.1)
      | inr p ↦
          let a = g.1 in
          let b = a.4 in (
            l,
            (
              a.0,
              a.1,
              a.2,
              subst (λ (z : Production). derives (left_operand z) (Some k) l a.0) p a.3,
              inl (o, r, refl, (b.0, b.1, b.2, (p, b.3), subst (λ (z : Production). derives (right_operand z) (Some k) r b.1) p b.4)),
            ),
          )
    ]
relation_back k (Unary o place e) ts g = one_operand k (Unary o place e) ts (unary_simple o, g.1)
relation_back k (Number value place) ts g = one_operand k (Number value place) ts (refl, g.1)
relation_back k (Named name all) ts g = one_operand k (Named name all) ts (refl, g.1)
relation_back k (Parenthesized place e) ts g = one_operand k (Parenthesized place e) ts (refl, g.1)
relation_back k (Conditional place condition value others else_value) ts g = one_operand k (Conditional place condition value others else_value) ts (refl, g.1)

abbrev pub OpenStops : ExprTree → Option Token → Type 0
OpenStops y t = Ends continues_simple t × (is_relation y ≡ false → Ends compares t)

relation_fits : (k : ℕ) (x y : ExprTree) (v r : Tokens) → compared k x y v → OpenStops y (first r)
    → Ends continues_simple (first (v ++ r)) × ComparedStops y (first r)
relation_fits k x y v r (inl w) st = (apart compares continues_simple relational_goes (first (v ++ r)) (second_first k x y v r w), (st.1, λ t. st.0))
relation_fits k x y v r (inr w) st = (subst (λ (z : Tokens). Ends continues_simple (first (z ++ r))) (sym w.1) st.0, (st.1, λ t. st.0))

relation_stop : (k : ℕ) (x y : ExprTree) (v r : Tokens) → compared k x y v → Ends continues_simple (first (v ++ r)) → ComparedStops y (first r)
    → OpenStops y (first r)
relation_stop k x y v r (inl w) sa sb = (sb.1 (second_is k x y v w), sb.0)
relation_stop k x y v r (inr w) sa sb = (subst (λ (z : Tokens). Ends continues_simple (first (z ++ r))) w.1 sa, sb.0)

pub exact_open_relation : (k : ℕ) (d : Option ExpressionReaders) → Below Exacts k d → Exact (after (simple_in d) (compared_in d)) (derives Relation (Some k)) OpenStops
exact_open_relation k d b =
    exact_behind (simple_in d) (compared_in d) (derives Simple (Some k)) (compared k) (λ _. Ends continues_simple) (λ left. ComparedStops)
    (derives Relation (Some k)) OpenStops
    (exact_simple_in k d b) (λ x u g. exact_compared k d x b (simple_alone k x u g)) (relation_to k) (relation_back k)
    (λ x y u v r g h st. relation_fits k x y v r h st) (λ x y u v r g h sa sb. relation_stop k x y v r h sa sb)

pub exact_relation : (k : ℕ) (d : Option ExpressionReaders) → Below Exacts k d → Exact (relation_in d) (derives Relation (Some k)) (λ _. Ends continues_relation)
unfolding relation_in
exact_relation k d b =
    exact_told (closed (begins relational) (after (simple_in d) (compared_in d))) (derives Relation (Some k)) (derives Relation (Some k))
    (Closed (begins relational) OpenStops) (λ _. Ends continues_relation)
    (exact_closed (begins relational) (after (simple_in d) (compared_in d)) (derives Relation (Some k)) OpenStops (exact_open_relation k d b))
    (λ x ts g. g) (λ x ts g. g) (λ x ts o g st. ends_both compares continues_simple o st.0 st.1.0)
    (λ x ts o g st. (ends_left compares continues_simple o st, (ends_right compares continues_simple o st, λ f. ends_left compares continues_simple o st)))
