-- Scopes stay sound with a name more, and their subtypes are those of declared types.
use Rattle.std.proofs.Common.{◌≡◌, ℕ, suc, ◌++◌, length, List, [], ◌∷◌, true, false, inl, inr, Option, Some, None, refl, sym, ap, ◌∙◌, subst}
use Rattle.std.specs.Prelude.{cond}
use Rattle.meaning.specs.ada_tree.specs.declared.expression.Identifier.{Identifier}
use Rattle.meaning.specs.types.specs.declared.entity.Subtype.{Subtype}
use Rattle.meaning.specs.types.specs.Entities.{TypeForm, Integers, Booleans, Entity, OfType, OfSubtype}
use Rattle.meaning.specs.types.specs.Scopes.{Scope, Named, boolean_type, entity_at, form_at, form_of, integer_type, is_visible, number_of, with_name}
use Rattle.meaning.specs.expr_rules.specs.Typing.{is_spans, is_times}
use Rattle.meaning.specs.expr_rules.proofs.TypeShapes.{type_entity}
use Rattle.meaning.specs.type_rules.specs.SubtypeNames.{entity_at_or_none, subtype_in, subtype_of}
use Rattle.expr_soundness.specs.SoundScopes.{IsKnown, IsSoundEntity, SoundScope}
use Rattle.expr_soundness.proofs.Positions.{entity_added, same_some}
use Rattle.expr_soundness.proofs.Goods.{known_type}
use Rattle.expr_soundness.proofs.Growing.{entity_sound, form_kept, grown, test_kept}

module _ (s : Scope) (x : Named) (sound : SoundScope s) (own : IsSoundEntity (s ++ x ∷ []) (length s) x.entity) (untimed : is_times (form_of (Some x.entity)) ≡ false) where
  abbrev wider : Scope
  wider = s ++ x ∷ []

  each_wider : (n : ℕ) (e : Entity) → entity_at wider n ≡ Some e → IsSoundEntity wider n e
  each_wider n e h =
      elim (entity_added s x n e h) [
        | inl k ↦ entity_sound s wider (grown s (x ∷ [])) n e (sound.each n e k)
        | inr k ↦ subst (λ m. IsSoundEntity wider m e) (sym k.0) (subst (IsSoundEntity wider (length s)) k.1 own)
      ]

  span_wider : (n : ℕ) → is_times (form_at wider n) ≡ true → is_spans (form_at wider (suc n)) ≡ true
  span_wider n h = by_form (form_at wider n) refl h
    where
      by_form : (o : Option TypeForm) → form_at wider n ≡ o → is_times o ≡ true → is_spans (form_at wider (suc n)) ≡ true
      by_form (Some form) e k =
          let one = type_entity (entity_at wider n) form e in
          elim (entity_added s x n (OfType form one.0) one.1) [
            | inl i ↦ test_kept s wider (grown s (x ∷ [])) is_spans refl (suc n) (sound.span n (ap (λ o. is_times (form_of o)) i ∙ k))
            | inr i ↦ (let never = sym untimed ∙ ap (λ y. is_times (form_of (Some y))) i.1 ∙ k in cc)
          ]
      by_form None e k = cc

  pub wider_sound : SoundScope wider
  wider_sound =
      record {
        integer = form_kept s (x ∷ []) integer_type Integers sound.integer;
        boolean = form_kept s (x ∷ []) boolean_type Booleans sound.boolean;
        span = span_wider;
        each = each_wider;
      }

pub widened : (s : Scope) (name : List ℕ) (e : Entity) → SoundScope s → is_visible s name ≡ false → IsSoundEntity (with_name s name e) (length s) e → is_times (form_of (Some e)) ≡ false → SoundScope (with_name s name e)
widened s name e sound hidden own untimed =
    let x : Named = record { name = name; entity = e } in
    let is : with_name s name e ≡ s ++ x ∷ [] = ap (λ b. cond b s (s ++ x ∷ [])) hidden in
    subst SoundScope (sym is) (wider_sound s x sound (subst (λ u. IsSoundEntity u (length s) e) is own) untimed)

pub subtype_known : (s : Scope) (name : Identifier) (t : Subtype) → SoundScope s → subtype_of s name ≡ Some t → IsKnown s t
subtype_known s name t sound h = by_number (number_of s name.name) h
  where
    by_entity : (n : ℕ) (o : Option Entity) → entity_at s n ≡ o → subtype_in o ≡ Some t → IsKnown s t
    by_entity n (Some (OfType form u)) at k = subst (IsKnown s) (same_some u t k) (known_type s sound n form u at)
    by_entity n (Some (OfSubtype u)) at k = subst (IsKnown s) (same_some u t k) (sound.each n (OfSubtype u) at)
    by_entity n o at k = cc

    by_number : (k : Option ℕ) → subtype_in (entity_at_or_none s k) ≡ Some t → IsKnown s t
    by_number (Some n) h = by_entity n (entity_at s n) refl h
    by_number None h = cc
