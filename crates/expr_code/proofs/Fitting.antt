-- Code of expressions whose values are to lie in a subtype of whatever words: arrays and records need no check.
use Rattle.std.proofs.Common.{◌≡◌, true, Option, Some, refl, sym, ap, ◌∙◌, subst}
use Rattle.ada_tree.specs.ExpressionTree.{ExprTree}
use Rattle.types.specs.declared.entity.Subtype.{Subtype}
use Rattle.types.specs.Entities.{Arrays, Integers, Records, TypeForm}
use Rattle.types.specs.Evaluating.{passed}
use Rattle.types.specs.Evaluations.{Gives}
use Rattle.types.specs.Layouts.{words_of}
use Rattle.types.specs.Scopes.{form_at, Scope}
use Rattle.types.specs.Shapes.{component_shapes, has_shape, shape_of, shapes}
use Rattle.types.specs.Statics.{start_of}
use Rattle.types.specs.Values.{Value}
use Rattle.expr_soundness.specs.expr_rules.specs.Faults.{Faults}
use Rattle.expr_soundness.specs.expr_rules.specs.declared.own.Own.{Own}
use Rattle.expr_soundness.specs.expr_rules.specs.declared.own.Own.TheVariants.{Typed, Universal, Unknown}
use Rattle.expr_soundness.specs.expr_rules.specs.declared.own.Wanted.{Wanted}
use Rattle.expr_soundness.specs.expr_rules.specs.declared.own.Wanted.TheVariants.{Anything, AnyInteger, OfType}
use Rattle.expr_soundness.specs.expr_rules.specs.ExpressionRules.{faults_in}
use Rattle.expr_soundness.specs.expr_rules.specs.NameRules.{mismatch}
use Rattle.expr_soundness.specs.expr_rules.specs.Typing.{is_integers, own_of}
use Rattle.expr_soundness.specs.expr_rules.proofs.TypedLaw.{back_empty, front_empty, same_number}
use Rattle.expr_soundness.specs.SoundScopes.{SoundScope}
use Rattle.expr_code.specs.Emitting.{is_composite, IsFit, WantedFits}
use Rattle.expr_code.specs.Widths.{own_words, width_of}
use Rattle.expr_code.proofs.Going.{grouped_shape, repeated_shape}
use Rattle.expr_code.proofs.Paths.{as_array, as_record}
use Rattle.expr_code.proofs.Widths.{Fits, fits, known, words_by_type}

no_integers : (o : Option TypeForm) → is_composite o ≡ true → is_integers o ≡ true → ⊥
no_integers (Some Integers) c h = cc
no_integers o c h = cc

module _ (s : Scope) (sound : SoundScope s) (t : Subtype) where
  pub composite_width : (e : ExprTree) → IsFit s t e → is_composite (form_at s t.type_number) ≡ true → width_of s e ≡ words_of s t
  composite_width e h composite =
      by_wanted h.wanted h.fits (own_of s e)
      (fits s sound h.wanted (own_of s e) (start_of e) (known s sound e h.wanted (front_empty inside ends h.unbroken)) (back_empty inside ends h.unbroken))
    where
      inside : Faults
      inside = faults_in s h.wanted e

      ends : Faults
      ends = mismatch s h.wanted (own_of s e) (start_of e)

      by_wanted : (w : Wanted) → WantedFits s w t → (own : Own) → Fits s sound w own → own_words s own ≡ words_of s t
      by_wanted (OfType n) same Unknown f = let k = f.known in cc
      by_wanted (OfType n) same Universal f =
          absurd (no_integers (form_at s t.type_number) composite (ap (λ k. is_integers (form_at s k)) (sym same) ∙ f.wanted))
      by_wanted (OfType n) same (Typed m) f = ap (λ k. own_words s (Typed k)) (sym (same_number n m f.wanted) ∙ same) ∙ words_by_type s t
      by_wanted AnyInteger same own f = absurd (no_integers (form_at s t.type_number) composite same)
      by_wanted Anything same own f = absurd same

  -- an array or a record lies in each subtype of its type
  pub composite_passes : is_composite (form_at s t.type_number) ≡ true → (x : Value) → has_shape (shape_of s t) x ≡ true → passed t x ≡ Gives x
  composite_passes composite x h = by_form (form_at s t.type_number) refl composite
    where
      by_form : (o : Option TypeForm) → form_at s t.type_number ≡ o → is_composite o ≡ true → passed t x ≡ Gives x
      by_form (Some (Arrays index many element)) form c =
          let it = as_array (shape_of s t) (shape_of s element) many x (repeated_shape s sound t index many element form) h in
          subst (λ y. passed t y ≡ Gives y) (sym it.1) refl
      by_form (Some (Records cs)) form c =
          let it = as_record (shape_of s t) (component_shapes (shapes s) cs) x (grouped_shape s sound t cs form) h in
          subst (λ y. passed t y ≡ Gives y) (sym it.1) refl
      by_form o form c = cc
