-- What is visible in a small source has words that an image has, and so has each part of it.
use Rattle.std.proofs.Common.{◌≡◌, ◌≤◌, ℕ, suc, [], ◌∷◌, List, true, false, not, Some, refl, ap, ◌∙◌}
use Rattle.std.specs.Prelude.{⊤, slice_get}
use Rattle.std.proofs.lemmas.Bool.{or_from}
use Rattle.base.specs.declared.limits.TheConstants.{WORDS}
use Rattle.types.specs.declared.entity.FormalParameter.{FormalParameter}
use Rattle.types.specs.declared.entity.Subtype.{Subtype}
use Rattle.types.specs.Entities.{Entity, Object}
use Rattle.types.specs.Layouts.{words_of}
use Rattle.types.specs.Scopes.{Scope, base_range_of, entity_at, form_at}
use Rattle.types.specs.Shapes.{shape_of, shape_or_none, shapes}
use Rattle.expr_soundness.specs.SoundScopes.{IsKnown}
use Rattle.expr_soundness.proofs.Goods.{not_empty, object_known}
use Rattle.expr_code.specs.Refusing.{is_fit}
use Rattle.expr_code.specs.declared.visible.Visible.{Visible}
use Rattle.part_code.specs.Needs.{are_unfit, has_unfit, is_unfit}
use Rattle.source_laws.specs.Depths.{IsSmallScope}
use Rattle.part_code.proofs.FullWords.{narrowed_full}
use Rattle.source_laws.proofs.FullShapes.{full_fit}

-- ---- what is visible

pub fits_here : (s : Scope) → IsSmallScope s → (t : Subtype) → IsKnown s t → words_of s t ≤ WORDS → is_fit (shape_of s t) ≡ true
fits_here s small t typed few =
    let form = not_empty (form_at s t.type_number) typed in
    full_fit (shape_of s t)
    (narrowed_full t (base_range_of t.type_number) (shape_or_none (slice_get (shapes s) t.type_number)) ∙ small.full t.type_number form.0 form.1) few

abbrev pub AreFit : Scope → List FormalParameter → Type 0
AreFit s [] = ⊤
AreFit s (f ∷ fs) = (is_fit (shape_of s f.subtype) ≡ true) × AreFit s fs

entity_fit : (s : Scope) → IsSmallScope s → (n : ℕ) (e : Entity) → entity_at s n ≡ Some e → is_unfit s e ≡ false
entity_fit s small n (Object r t) h = ap not (fits_here s small t (object_known s r t (small.sound.each n (Object r t) h)) (small.objects n r t h))
entity_fit s small n e h = refl

none_unfit : (s rest : Scope) → ((n : ℕ) (e : Entity) → entity_at rest n ≡ Some e → is_unfit s e ≡ false) → are_unfit s rest ≡ false
none_unfit s [] each = refl
none_unfit s (x ∷ rest) each = or_from (is_unfit s x.entity) (are_unfit s rest) (each 0 x.entity refl) (none_unfit s rest (λ n e h. each (suc n) e h))

pub nothing_unfit : (v : Visible) → IsSmallScope v.scope → has_unfit v ≡ false
nothing_unfit v small = none_unfit v.scope v.scope (entity_fit v.scope small)
