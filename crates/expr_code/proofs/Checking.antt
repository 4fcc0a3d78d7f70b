-- Code of expressions whose values are checked against a subtype.
use Rattle.std.proofs.Common.{◌≡◌, true, Option, Some, refl, sym, ap, ◌∙◌, subst}
use Rattle.std.specs.Prelude.{pos}
use Rattle.ada_tree.specs.ExpressionTree.{ExprTree}
use Rattle.image.specs.Sections.{Sections}
use Rattle.types.specs.declared.entity.Subtype.{Subtype}
use Rattle.types.specs.Bounds.{bounds_of}
use Rattle.types.specs.Entities.{Booleans, Integers, TypeForm}
use Rattle.types.specs.Evaluations.{Gives}
use Rattle.types.specs.Evaluating.{Calls, passed, value_with}
use Rattle.types.specs.Laws.{ValuesHaveWords}
use Rattle.types.specs.Layouts.{words_of}
use Rattle.types.specs.Places.{Place}
use Rattle.types.specs.Scopes.{form_at, Scope}
use Rattle.types.specs.Shapes.{has_shape, shape_of}
use Rattle.types.specs.Statics.{start_of}
use Rattle.types.specs.Values.{Number, Value}
use Rattle.expr_soundness.specs.expr_rules.specs.declared.own.Own.TheVariants.{Typed}
use Rattle.expr_soundness.specs.expr_rules.specs.declared.own.Wanted.{Wanted}
use Rattle.expr_soundness.specs.expr_rules.specs.declared.own.Wanted.TheVariants.{Anything, AnyInteger, OfType}
use Rattle.expr_soundness.specs.expr_rules.specs.declared.names.Slot.TheVariants.{Expects}
use Rattle.expr_soundness.specs.expr_rules.specs.ExpressionRules.{faults_in}
use Rattle.expr_soundness.specs.expr_rules.specs.Laws.{suits}
use Rattle.expr_soundness.specs.expr_rules.specs.NameRules.{mismatch}
use Rattle.expr_soundness.specs.expr_rules.specs.Typing.{is_booleans, is_integers, own_of}
use Rattle.expr_soundness.specs.expr_rules.proofs.TypeShapes.{numeric_value}
use Rattle.expr_soundness.specs.expr_rules.proofs.TypedLaw.{as_number, as_truth, back_empty, front_empty}
use Rattle.expr_soundness.specs.Agreeing.{Agrees}
use Rattle.expr_soundness.specs.Answers.{CallsAnswer}
use Rattle.expr_soundness.specs.BoundsLaw.{AllValuesLie, ChecksAreSpared, is_inside}
use Rattle.expr_soundness.specs.Laws.{ExpressionsAreTyped}
use Rattle.expr_soundness.proofs.Arguments as arguments
use Rattle.expr_soundness.proofs.Arguments.{slot_suits}
use Rattle.expr_soundness.proofs.Parts.{subtype_values}
use Rattle.expr_code.specs.Computing.{AlwaysPasses, ComesToNumber}
use Rattle.expr_code.specs.Emitting.{has_numbers, IsFit, IsLegalExpression, WantedFits}
use Rattle.expr_code.specs.Seeing.{library_of, Package, Sees}
use Rattle.expr_code.specs.declared.visible.Visible.{Visible}

module _ (s : Scope) (t : Subtype) (e : ExprTree) (h : IsFit s t e) where
  pub fit_legal : IsLegalExpression s e
  fit_legal = record { wanted = h.wanted; unbroken = front_empty (faults_in s h.wanted e) (mismatch s h.wanted (own_of s e) (start_of e)) h.unbroken }

-- the value, where there is one, is of the subtype's type
suited : ExpressionsAreTyped → (v : Visible) (t : Subtype) (e : ExprTree) → IsFit v.scope t e → (calls : Calls) (p : Place) → Agrees v.scope p → CallsAnswer calls p
    → suits v.scope (Typed t.type_number) (value_with calls p e) ≡ true
suited laws v t e h calls p agrees answers =
    let legal = fit_legal v.scope t e h in
    slot_suits v.scope (Expects h.wanted) t e (own_of v.scope e) (value_with calls p e) (same_fits h.wanted h.fits)
    (back_empty (faults_in v.scope h.wanted e) (mismatch v.scope h.wanted (own_of v.scope e) (start_of e)) h.unbroken)
    (laws.own v.scope p calls agrees answers e legal.wanted legal.unbroken)
  where
    same_fits : (w : Wanted) → WantedFits v.scope w t → arguments.WantedFits v.scope w t
    same_fits (OfType n) f = f
    same_fits AnyInteger f = f
    same_fits Anything f = absurd f

of_type : ExpressionsAreTyped → (v : Visible) (unit : Package) (t : Subtype) (e : ExprTree) → IsFit v.scope t e → (calls : _) (p : _) (view : _) → (library_of unit).sound calls → Sees unit v p view → suits v.scope (Typed t.type_number) (value_with calls p e) ≡ true
of_type laws v unit t e h calls p view sound sees = suited laws v t e h calls p sees.names.agrees (sound.0 p sees.unit.sound)

pub shaped : ExpressionsAreTyped → (v : Visible) (t : Subtype) (e : ExprTree) → IsFit v.scope t e → (calls : Calls) (p : Place) → Agrees v.scope p → CallsAnswer calls p → (x : Value) → value_with calls p e ≡ Gives x
    → has_shape (shape_of v.scope t) x ≡ true
shaped laws v t e h calls p agrees answers x is = subtype_values v.scope t x ∙ ap (suits v.scope (Typed t.type_number)) (sym is) ∙ suited laws v t e h calls p agrees answers

-- numbers and truth values take one word
one_number : ValuesHaveWords → (s : Scope) (t : Subtype) → has_numbers (form_at s t.type_number) ≡ true → words_of s t ≡ 1
one_number words s t numbers =
    let has = subtype_values s t (Number (pos 0)) ∙ numeric_value s (Typed t.type_number) numbers (Number (pos 0)) in
    sym (words (shape_of s t) (Number (pos 0)) has).sized

pub integers_numbers : (o : Option TypeForm) → is_integers o ≡ true → has_numbers o ≡ true
integers_numbers (Some Integers) h = refl
integers_numbers o h = cc

pub single_number : ValuesHaveWords → (s : Scope) (t : Subtype) → is_integers (form_at s t.type_number) ≡ true → words_of s t ≡ 1
single_number words s t integers = one_number words s t (integers_numbers (form_at s t.type_number) integers)

module _ (laws : ExpressionsAreTyped) (i : Sections) (v : Visible) (unit : Package) (t : Subtype) (e : ExprTree) (h : IsFit v.scope t e) where
  pub comes_to_number : has_numbers (form_at v.scope t.type_number) ≡ true → ComesToNumber i (library_of unit) (Sees unit v) e
  comes_to_number numbers calls p view x sound sees is =
      as_number v.scope (Typed t.type_number) x numbers (ap (suits v.scope (Typed t.type_number)) (sym is) ∙ of_type laws v unit t e h calls p view sound sees)

  pub is_a_number : form_at v.scope t.type_number ≡ Some Integers → ComesToNumber i (library_of unit) (Sees unit v) e
  is_a_number form = comes_to_number (ap has_numbers form)

  pub always_passes : form_at v.scope t.type_number ≡ Some Booleans → AlwaysPasses i (library_of unit) (Sees unit v) t e
  always_passes form calls p view x sound sees is =
      let b = as_truth v.scope (Typed t.type_number) x (ap is_booleans form) (ap (suits v.scope (Typed t.type_number)) (sym is) ∙ of_type laws v unit t e h calls p view sound sees) in
      subst (λ y. passed t y ≡ Gives y) (sym b.1) refl

-- where the bounds of the value lie inside the subtype it passes the check, wherever the frame stands
module _ (spared : ChecksAreSpared) (all : AllValuesLie) (i : Sections) (v : Visible) (unit : Package) (t : Subtype) (e : ExprTree)
    (legal : IsLegalExpression v.scope e) (inside : is_inside (bounds_of v.scope e) t ≡ true) where
  pub passes_inside : AlwaysPasses i (library_of unit) (Sees unit v) t e
  passes_inside calls p view x sound sees is =
      spared v.scope p calls sees.names.agrees (sound.0 p sees.unit.sound) (all v.scope p calls sees.names.agrees sees.unit.values sees.loops sound.1) e
      legal.wanted t legal.unbroken inside x is
