-- A place agrees as well where a protected object has no operations behind its name.
use Rattle.std.proofs.Common.{◌≡◌, ℕ, zero, suc, ◌++◌, List, [], ◌∷◌, ◌⊎◌, inl, inr, Some, refl, sym, ap, ◌∙◌, subst}
use Rattle.std.specs.Prelude.{bytes_eq, cond, option_map, slice_get}
use Rattle.meaning.specs.types.specs.Entities.{Operation, Entity, OfType, OfSubtype, Object, Constant, Literal, Exception, Subprogram, Entry, Predefined, Put, Task, Protected, LibraryUnit, Doubtful}
use Rattle.meaning.specs.types.specs.Scopes.{Scope, base_range_of, boolean_type, changed_at, entity_at, form_at, form_of, integer_type, number_of, offering, with_operations}
use Rattle.meaning.specs.types.specs.Shapes.{Shape, entity_shape, narrowed, shape_or_none, shapes_after}
use Rattle.meaning.specs.types.specs.Places.{Place, meaning_of}
use Rattle.meaning.specs.expr_rules.specs.Typing.{is_spans, is_times}
use Rattle.expr_soundness.specs.SoundScopes.{IsSoundEntity, SoundScope}
use Rattle.expr_soundness.specs.Agreeing.{Agrees, Means}
use Rattle.expr_soundness.proofs.Positions.{first_place, number_place, same_some}
use Rattle.expr_soundness.proofs.Goods.{object_known}
use Rattle.expr_soundness.proofs.Growing.{HasTypes, entity_sound, one_kept}

changed_place : (s : Scope) (n : ℕ) (change : Entity → Entity) (name : List ℕ)
    → first_place (λ m. bytes_eq name m.name) (changed_at s n change) ≡ first_place (λ m. bytes_eq name m.name) s
changed_place [] n change name = refl
changed_place (x ∷ rest) zero change name = refl
changed_place (x ∷ rest) (suc n) change name = ap (λ o. cond (bytes_eq name x.name) (Some 0) (option_map suc o)) (changed_place rest n change name)

pub changed_number : (s : Scope) (n : ℕ) (change : Entity → Entity) (name : List ℕ) → number_of (changed_at s n change) name ≡ number_of s name
changed_number s n change name = number_place (changed_at s n change) name ∙ changed_place s n change name ∙ sym (number_place s name)

-- what stands there is what stood there, or that with its change
pub changed_entity : (s : Scope) (n : ℕ) (change : Entity → Entity) (k : ℕ) (e : Entity) → entity_at (changed_at s n change) k ≡ Some e
    → (old : Entity) × (entity_at s k ≡ Some old) × ((old ≡ e) ⊎ (change old ≡ e))
changed_entity [] n change k e h = (e, h, inl refl)
changed_entity (x ∷ rest) zero change zero e h = (x.entity, refl, inr (same_some (change x.entity) e h))
changed_entity (x ∷ rest) zero change (suc k) e h = (e, h, inl refl)
changed_entity (x ∷ rest) (suc n) change zero e h = (e, h, inl refl)
changed_entity (x ∷ rest) (suc n) change (suc k) e h = changed_entity rest n change k e h

offered_form : (operations : List Operation) (e : Entity) → form_of (Some (offering operations e)) ≡ form_of (Some e)
offered_form operations (Protected o) = refl
offered_form operations e = refl

offered_shape : (operations : List Operation) (known : List Shape) (e : Entity) → entity_shape known (offering operations e) ≡ entity_shape known e
offered_shape operations known (Protected o) = refl
offered_shape operations known e = refl

pub same_forms : (s : Scope) (n : ℕ) (operations : List Operation) (k : ℕ) → form_at (with_operations s n operations) k ≡ form_at s k
same_forms [] n operations k = refl
same_forms (x ∷ rest) zero operations zero = offered_form operations x.entity
same_forms (x ∷ rest) zero operations (suc k) = refl
same_forms (x ∷ rest) (suc n) operations zero = refl
same_forms (x ∷ rest) (suc n) operations (suc k) = same_forms rest n operations k

same_shapes : (known : List Shape) (s : Scope) (n : ℕ) (operations : List Operation)
    → shapes_after known (with_operations s n operations) ≡ shapes_after known s
same_shapes known [] n operations = refl
same_shapes known (x ∷ rest) zero operations = ap (λ y. shapes_after (known ++ y ∷ []) rest) (offered_shape operations known x.entity)
same_shapes known (x ∷ rest) (suc n) operations = same_shapes (known ++ entity_shape known x.entity ∷ []) rest n operations

module _ (s : Scope) (n : ℕ) where
  abbrev pub inside : Scope
  inside = with_operations s n []

  pub has_types : HasTypes s inside
  has_types =
      record {
        forms = λ k form h. same_forms s n [] k ∙ h;
        shapes = λ k form h. ap (λ l. narrowed (base_range_of k) (shape_or_none (slice_get l k))) (same_shapes [] s n []);
      }

  offered_sound : (k : ℕ) (e : Entity) → IsSoundEntity inside k e → IsSoundEntity inside k (offering [] e)
  offered_sound k (Protected o) h = (tt, h.1)
  offered_sound k e h = h

  pub inside_sound : SoundScope s → SoundScope inside
  inside_sound sound =
      record {
        integer = same_forms s n [] integer_type ∙ sound.integer;
        boolean = same_forms s n [] boolean_type ∙ sound.boolean;
        span = λ k h. ap is_spans (same_forms s n [] (suc k)) ∙ sound.span k (sym (ap is_times (same_forms s n [] k)) ∙ h);
        each = each;
      }
    where
      each : (k : ℕ) (e : Entity) → entity_at inside k ≡ Some e → IsSoundEntity inside k e
      each k e h =
          let old = changed_entity s n (offering []) k e h in
          let kept = entity_sound s inside has_types k old.0 (sound.each k old.0 old.1) in
          elim old.2 [ inl same ↦ subst (IsSoundEntity inside k) same kept | inr same ↦ subst (IsSoundEntity inside k) same (offered_sound k old.0 kept) ]

  module _ (p : Place) (agrees : Agrees s p) where
    means_still : (name : List ℕ) (k : ℕ) (e : Entity) → entity_at s k ≡ Some e → Means s p name e → Means inside p name e
    means_still name k (Object r t) at h = one_kept s inside has_types p.scope (meaning_of p name) r t (object_known s r t (agrees.sound.each k (Object r t) at)) h
    means_still name k (OfType form t) at h = h
    means_still name k (OfSubtype t) at h = h
    means_still name k (Constant t v) at h = h
    means_still name k (Literal b) at h = h
    means_still name k Exception at h = tt
    means_still name k (Subprogram profile) at h = h
    means_still name k (Entry profile) at h = tt
    means_still name k (Predefined o profile) at h = h
    means_still name k Put at h = tt
    means_still name k (Task m) at h = tt
    means_still name k (Protected o) at h = h
    means_still name k LibraryUnit at h = tt
    means_still name k Doubtful at h = tt

    offered_means : (name : List ℕ) (e : Entity) → Means inside p name e → Means inside p name (offering [] e)
    offered_means name (Protected o) h = record { object = h.object; is = h.is; offers = λ other k x at found. cc }
    offered_means name e h = h

    inside_names : (name : List ℕ) (k : ℕ) (e : Entity) → number_of inside name ≡ Some k → entity_at inside k ≡ Some e → Means inside p name e
    inside_names name k e numbered at =
        let old = changed_entity s n (offering []) k e at in
        let before : number_of s name ≡ Some k = sym (changed_number s n (offering []) name) ∙ numbered in
        let still = means_still name k old.0 old.1 (agrees.names name k old.0 before old.1) in
        elim old.2 [ inl same ↦ subst (Means inside p name) same still | inr same ↦ subst (Means inside p name) same (offered_means name old.0 still) ]

pub hidden : (s : Scope) (p : Place) (number : ℕ) → Agrees s p → Agrees (with_operations s number []) p
hidden s p number agrees =
    record {
      sound = inside_sound s number agrees.sound;
      forms = λ k form h. agrees.forms k form (sym (same_forms s number [] k) ∙ h);
      shapes =
          λ k form h. agrees.shapes k form (sym (same_forms s number [] k) ∙ h) ∙ sym (ap (λ l. narrowed (base_range_of k) (shape_or_none (slice_get l k))) (same_shapes [] s number []));
      names = inside_names s number p agrees;
    }
