-- What legality tells of a `case`: its expression takes one word, and its choices are static values of the type of the expression.
use Rattle.std.proofs.Common.{◌≡◌, ℕ, ◌+◌, ◌≤◌, ℤ, List, [], ◌∷◌, ◌++◌, length, Bool, true, false, ◌||◌, not, None, refl, sym, ap, ◌∙◌, subst, arith, ◌⊎◌, inl, inr}
use Rattle.base.specs.declared.faults.TheConstants.{NO_MEANING, WRONG_CHOICES}
use Rattle.kernel.specs.Laws.{QuietStays}
use Rattle.ada_tree.specs.ExpressionTree as tree
use Rattle.ada_tree.specs.ExpressionTree.{ExprTree}
use Rattle.ada_tree.specs.Size.{expr_size, total}
use Rattle.image.specs.Sections.{Sections}
use Rattle.types.specs.declared.entity.Value.{Value as Scalar}
use Rattle.types.specs.declared.entity.Value.TheVariants as scalar
use Rattle.types.specs.declared.statics.StaticForm.TheVariants.{Static}
use Rattle.types.specs.Evaluating.{call, val}
use Rattle.types.specs.Evaluations.{Gives}
use Rattle.types.specs.Places.{Place}
use Rattle.types.specs.Scopes.{Scope, integer_type}
use Rattle.types.specs.Statics.{StaticIsValue, start_of, static_form, static_value}
use Rattle.types.specs.Values.{Number, Truth, Value, value_of}
use Rattle.expr_soundness.specs.expr_rules.specs.declared.own.Own.{Own}
use Rattle.expr_soundness.specs.expr_rules.specs.declared.own.Own.TheVariants.{Typed, Universal, Unknown}
use Rattle.expr_soundness.specs.expr_rules.specs.declared.own.Wanted.{Wanted}
use Rattle.expr_soundness.specs.expr_rules.specs.declared.own.Wanted.TheVariants.{Anything, OfType}
use Rattle.expr_soundness.specs.expr_rules.specs.ExpressionRules.{faults_in, faults_of}
use Rattle.expr_soundness.specs.expr_rules.specs.Faults.{rule}
use Rattle.expr_soundness.specs.expr_rules.specs.Laws.{is_value_of, suits}
use Rattle.expr_soundness.specs.expr_rules.specs.NameRules.{mismatch}
use Rattle.expr_soundness.specs.expr_rules.specs.StaticRules.{form_rule, if_unbroken, static_faults, value_rule}
use Rattle.expr_soundness.specs.expr_rules.specs.Typing.{is_boolean, is_integers, is_integral, is_known, own_of}
use Rattle.expr_soundness.specs.expr_rules.proofs.TypedLaw.{as_number, as_truth, back_empty, front_empty, integral_numeric, unbroken}
use Rattle.step_soundness.specs.stmt_rules.specs.CaseRules.{choice_faults, choice_value, choices_wanted, discrete_rule, is_chosen, is_discrete, selecting_faults}
use Rattle.expr_soundness.specs.Laws.{CallsAreTyped}
use Rattle.expr_soundness.specs.SoundScopes.{SoundScope}
use Rattle.expr_soundness.proofs.Expressions.{not_false}
use Rattle.expr_soundness.specs.meaning.specs.Programs.{Program}
use Rattle.expr_code.specs.Seeing.{Package, Sees}
use Rattle.expr_code.specs.Views.{View}
use Rattle.expr_code.specs.Widths.{own_words, width_of}
use Rattle.expr_code.proofs.Widths.{boolean_one, integral_one}
use Rattle.part_code.specs.Resting.{Framed}
use Rattle.part_code.specs.Statements.{Numbers}
use Rattle.part_code.proofs.Comparing.{AreAlike, IsScalar, IsStatic}
use Rattle.part_code.proofs.Deciding.{fixed_kept, number_scalar, truth_scalar}

-- a choice counts at least one
expr_counts : (e : ExprTree) → 1 ≤ expr_size e
expr_counts (tree.Number z place) = omega arith
expr_counts (tree.Named first parts) = omega arith
expr_counts (tree.Parenthesized place e) = omega arith
expr_counts (tree.Conditional place c v more last) = omega arith
expr_counts (tree.Unary operator place e) = omega arith
expr_counts (tree.Binary operator a b) = omega arith

pub all_count : (cs : List ExprTree) → length cs ≤ total expr_size cs
all_count [] = omega arith
all_count (c ∷ cs) = let one = expr_counts c in let more = all_count cs in omega (arith, one, more)

either : (a b : Bool) → (a || b) ≡ true → (a ≡ true) ⊎ (b ≡ true)
either true b h = inl refl
either false b h = inr h

discrete : (s : Scope) (a : Own) (place : ℕ) → is_known a ≡ true → discrete_rule s a place ≡ [] → is_discrete s a ≡ true
discrete s Unknown place k h = cc
discrete s Universal place k h = refl
discrete s (Typed n) place k h = not_false (is_discrete s (Typed n)) (unbroken NO_MEANING place (not (is_discrete s (Typed n))) h)

single : (s : Scope) (a : Own) (place : ℕ) → discrete_rule s a place ≡ [] → own_words s a ≡ 1
single s Unknown place h = refl
single s Universal place h = refl
single s (Typed n) place h =
    elim (either (is_integral s (Typed n)) (is_boolean s (Typed n)) (discrete s (Typed n) place refl h)) [
      | inl i ↦ integral_one s (Typed n) i
      | inr b ↦ boolean_one s (Typed n) b
    ]

module _ (s : Scope) (e : ExprTree) (h : selecting_faults s e ≡ []) where
  pub selecting_inside : faults_in s Anything e ≡ []
  selecting_inside =
      front_empty (faults_in s Anything e) (mismatch s Anything (own_of s e) (start_of e))
      (front_empty (faults_of s Anything e) (discrete_rule s (own_of s e) (start_of e)) h)

  pub selecting_rule : discrete_rule s (own_of s e) (start_of e) ≡ []
  selecting_rule = back_empty (faults_of s Anything e) (discrete_rule s (own_of s e) (start_of e)) h

  pub selecting_width : width_of s e ≡ 1
  selecting_width = single s (own_of s e) (start_of e) selecting_rule

-- the one type that is wanted of choices, of the same kind
pub record Wants (s : Scope) (a : Own) : Type 0 where
  pub number : ℕ
  pub wanted : choices_wanted s a ≡ OfType number
  pub kind : ((is_integral s a ≡ true) × (is_integral s (Typed number) ≡ true)) ⊎ ((is_boolean s a ≡ true) × (is_boolean s (Typed number) ≡ true))

wants : (s : Scope) (a : Own) → SoundScope s → is_discrete s a ≡ true → Wants s a
wants s Unknown sound h = cc
wants s Universal sound h = record { number = integer_type; wanted = refl; kind = inl (refl, ap is_integers sound.integer) }
wants s (Typed n) sound h = record {
  number = n;
  wanted = ap (λ b. elim b [ true ↦ OfType n | false ↦ Anything ]) h;
  kind = elim (either (is_integral s (Typed n)) (is_boolean s (Typed n)) h) [ inl i ↦ inl (i, i) | inr b ↦ inr (b, b) ];
}

alike_numbers : (x : Scalar) (z y : ℤ) → value_of x ≡ Number y → AreAlike (Number z) x
alike_numbers (scalar.Number a) z y e = tt
alike_numbers (scalar.Truth a) z y e = cc

alike_truths : (x : Scalar) (b y : Bool) → value_of x ≡ Truth y → AreAlike (Truth b) x
alike_truths (scalar.Truth a) b y e = tt
alike_truths (scalar.Number a) b y e = cc

module _ (calls : CallsAreTyped) (statics : StaticIsValue) (quiet : QuietStays) (i : Sections) (program : Program) (g : Package) (numbers : Numbers) (f : Framed)
    (e : ExprTree) (selecting : selecting_faults f.names.scope e ≡ []) where
  abbrev s : Scope
  s = f.names.scope

  inside : faults_in s Anything e ≡ []
  inside = selecting_inside s e selecting

  -- what is known wherever it is evaluated
  pub wants_there : (p : Place) (view : View) → Sees g f.names p view → Wants s (own_of s e)
  wants_there p view sees =
      wants s (own_of s e) sees.names.agrees.sound
      (discrete s (own_of s e) (start_of e) (calls.typed s p sees.names.agrees sees.unit.sound e Anything inside).known (selecting_rule s e selecting))

  suited : (p : Place) (view : View) → Sees g f.names p view → (x : Value) → val p e ≡ Gives x → is_value_of s (own_of s e) x ≡ true
  suited p view sees x is = ap (suits s (own_of s e)) (sym is) ∙ (calls.typed s p sees.names.agrees sees.unit.sound e Anything inside).suited

  pub scalar_there : IsScalar quiet i program g numbers f e
  scalar_there p view sees x is =
      elim (wants_there p view sees).kind [
        | inl k ↦ number_scalar calls statics quiet i program g numbers f e Anything inside k.0 p view sees x is
        | inr k ↦ truth_scalar calls statics quiet i program g numbers f e Anything inside k.0 p view sees x is
      ]

  -- a choice that breaks no rule
  module _ (c : ExprTree) (x : Scalar) (form : static_form s c ≡ Static) (value : static_value s c ≡ Gives (value_of x))
      (legal : faults_of s (choices_wanted s (own_of s e)) c ≡ []) where
    told : (p : Place) (view : View) → Sees g f.names p view → val p c ≡ Gives (value_of x)
    told p view sees = statics s p (call p.frames_left) (fixed_kept s p sees.names.agrees) c form ∙ value

    alike : (p : Place) (view : View) → Sees g f.names p view → (y : Value) → val p e ≡ Gives y → AreAlike y x
    alike p view sees y is =
        elim wanted.kind [
          | inl k ↦ (
              let z = as_number s (own_of s e) y (integral_numeric s (own_of s e) k.0) (suited p view sees y is) in
              let a = as_number s (Typed wanted.number) (value_of x) (integral_numeric s (Typed wanted.number) k.1) of_type in
              subst (λ q. AreAlike q x) (sym z.1) (alike_numbers x z.0 a.0 a.1))
          | inr k ↦ (
              let b = as_truth s (own_of s e) y k.0 (suited p view sees y is) in
              let a = as_truth s (Typed wanted.number) (value_of x) k.1 of_type in
              subst (λ q. AreAlike q x) (sym b.1) (alike_truths x b.0 a.0 a.1))
        ]
      where
        wanted : Wants s (own_of s e)
        wanted = wants_there p view sees

        of_type : is_value_of s (Typed wanted.number) (value_of x) ≡ true
        of_type = ap (suits s (Typed wanted.number)) (sym (told p view sees))
            ∙ calls.wanted s p sees.names.agrees sees.unit.sound c wanted.number (ap (λ w. faults_of s w c) (sym wanted.wanted) ∙ legal)

    pub static_there : IsStatic quiet i program g numbers f e c x
    static_there = record { told = told; alike = alike }

  pub choice_legal : (w : Wanted) (before : List Scalar) (c : ExprTree) → choice_faults s w before c ≡ [] → faults_of s w c ≡ []
  choice_legal w before c h =
      let of_c = faults_of s w c in
      let of_form = form_rule (start_of c) (static_form s c) in
      let of_value = if_unbroken of_c (value_rule (start_of c) None (static_form s c) (static_value s c)) in
      front_empty of_c of_form
      (front_empty (of_c ++ of_form) of_value
      (front_empty (static_faults s w None c) (rule WRONG_CHOICES (start_of c) (is_chosen before (choice_value s w c))) h))
