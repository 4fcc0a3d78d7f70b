-- What legality tells of `case`: its expression comes to a number or a truth value; and where fixed values of names are those that are visible.
use Rattle.std.proofs.Common.{◌≡◌, ℕ, [], true, Option, Some, None, refl, sym, ap, ◌∙◌, subst, inl, inr}
use Rattle.image.specs.Sections.{Sections}
use Rattle.kernel.specs.Laws.{QuietStays}
use Rattle.ada_tree.specs.ExpressionTree.{ExprTree}
use Rattle.types.specs.declared.standing.Standing.{Standing}
use Rattle.types.specs.declared.standing.Standing.TheVariants as standing
use Rattle.types.specs.Evaluating.{fixed_name, fixed_value, val}
use Rattle.types.specs.Evaluations.{Gives}
use Rattle.types.specs.Places.{Place}
use Rattle.types.specs.Scopes.{Scope, number_of}
use Rattle.types.specs.Standings.{select_all, stands_first, stands_for}
use Rattle.types.specs.Statics.{Keeps, StaticIsValue}
use Rattle.types.specs.Values.{Value}
use Rattle.expr_soundness.specs.expr_rules.specs.declared.own.Wanted.{Wanted}
use Rattle.expr_soundness.specs.expr_rules.specs.ExpressionRules.{faults_in}
use Rattle.expr_soundness.specs.expr_rules.specs.Laws.{is_value_of, suits}
use Rattle.expr_soundness.specs.expr_rules.specs.Typing.{is_boolean, is_integral, own_of}
use Rattle.expr_soundness.specs.expr_rules.proofs.TypedLaw.{as_number, as_truth, integral_numeric}
use Rattle.expr_soundness.specs.Agreeing.{Agrees}
use Rattle.expr_soundness.specs.Laws.{CallsAreTyped}
use Rattle.expr_soundness.proofs.Expressions.{first_here}
use Rattle.expr_soundness.proofs.FixedNames.{all_valueless}
use Rattle.expr_soundness.proofs.Positions.{entity_number}
use Rattle.expr_soundness.specs.meaning.specs.Programs.{Program}
use Rattle.expr_code.specs.Seeing.{Package, Sees}
use Rattle.expr_code.specs.Views.{View}
use Rattle.part_code.specs.Resting.{Framed}
use Rattle.part_code.specs.Statements.{Numbers}
use Rattle.part_code.proofs.Comparing.{IsScalar, IsSingle}

-- a place that agrees with the visible names keeps the fixed values of names
pub fixed_kept : (s : Scope) (p : Place) → Agrees s p → Keeps s p
fixed_kept s p agrees first selectors v h = by_number (number_of s first.name) refl
  where
    nothing : (w : Standing) → fixed_value (select_all s w selectors) ≡ None → fixed_value (select_all s w selectors) ≡ Some v → ⊥
    nothing w e k = let both = sym e ∙ k in cc

    by_number : (o : Option ℕ) → number_of s first.name ≡ o → fixed_name p first selectors ≡ Some v
    by_number (Some n) e =
        let x = entity_number s first.name n e in
        let w = stands_for n (Some x.0) in
        let there : fixed_value (select_all s w selectors) ≡ Some v =
        ap (λ k. fixed_value (select_all s (stands_for n k) selectors)) (sym x.1)
        ∙ ap (λ k. fixed_value (select_all s (stands_first s k) selectors)) (sym e) ∙ h in
        elim (first_here s p agrees first.name selectors n x.0 x.1 (agrees.names first.name n x.0 e x.1)) [
          | inl none ↦ absurd (nothing w (all_valueless s selectors w none.1) there)
          | inr here ↦ here.same ∙ there
        ]
    by_number None e =
        absurd (nothing standing.Doubtful (all_valueless s selectors standing.Doubtful refl)
        (ap (λ k. fixed_value (select_all s (stands_first s k) selectors)) (sym e) ∙ h))

module _ (calls : CallsAreTyped) (statics : StaticIsValue) (quiet : QuietStays) (i : Sections) (program : Program) (g : Package) (numbers : Numbers) (v : Framed)
    (e : ExprTree) (w : Wanted) (unbroken : faults_in v.names.scope w e ≡ []) where
  abbrev s : Scope
  s = v.names.scope

  suited : (p : Place) (view : View) → Sees g v.names p view → (x : Value) → val p e ≡ Gives x → is_value_of s (own_of s e) x ≡ true
  suited p view sees x is = ap (suits s (own_of s e)) (sym is) ∙ (calls.typed s p sees.names.agrees sees.unit.sound e w unbroken).suited

  -- of an integer type
  module _ (integral : is_integral s (own_of s e) ≡ true) where
    pub number_scalar : IsScalar quiet i program g numbers v e
    number_scalar p view sees x is =
        let z = as_number s (own_of s e) x (integral_numeric s (own_of s e) integral) (suited p view sees x is) in subst IsSingle (sym z.1) tt

  -- Boolean
  module _ (boolean : is_boolean s (own_of s e) ≡ true) where
    pub truth_scalar : IsScalar quiet i program g numbers v e
    truth_scalar p view sees x is = let b = as_truth s (own_of s e) x boolean (suited p view sees x is) in subst IsSingle (sym b.1) tt
