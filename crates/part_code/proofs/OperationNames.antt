-- What is told of protected objects by their names, and so of operations behind these, where one more name is visible.
use Rattle.std.proofs.Common.{◌≡◌, ℕ, ◌≢◌, inl, inr, List, [], ◌∷◌, ◌++◌, length, Option, Some, None, refl, sym, ap, ◌∙◌, arith}
use Rattle.std.specs.Prelude.{slice_get}
use Rattle.types.specs.Entities.{Entity, Protected, ProtectedObject}
use Rattle.types.specs.Scopes.{Named, Scope, entity_at, entity_of, number_of, protected_at, protected_of}
use Rattle.expr_soundness.proofs.Positions.{entity_added, entity_kept, number_added, number_kept}
use Rattle.expr_code.specs.Seeing.{object_named}
use Rattle.part_code.proofs.Names.{inside}

-- ---- one object

-- the name is that of this protected object
pub record NamesProtected (s : Scope) (name : List ℕ) (object : ProtectedObject) : Type 0 where
  pub number : ℕ
  pub numbered : number_of s name ≡ Some number
  pub stands : entity_at s number ≡ Some (Protected object)

module _ (name : List ℕ) (object : ProtectedObject) where
  pub names_protected : (s : Scope) → object_named s name ≡ Some object → NamesProtected s name object
  names_protected s h = by_number (number_of s name) refl h
    where
      by_entity : (n : ℕ) → number_of s name ≡ Some n → (e : Option Entity) → entity_at s n ≡ e → protected_of e ≡ Some object → NamesProtected s name object
      by_entity n numbered (Some (Protected o)) stands k =
          let same : o ≡ object = cc in
          record { number = n; numbered = numbered; stands = stands ∙ ap (λ x. Some (Protected x)) same }
      by_entity n numbered e stands k = cc

      by_number : (o : Option ℕ) → number_of s name ≡ o → elim o [ None ↦ None | Some n ↦ protected_at s n ] ≡ Some object → NamesProtected s name object
      by_number (Some n) numbered k = by_entity n numbered (entity_at s n) refl k
      by_number None numbered k = cc

  pub protected_named : (s : Scope) → NamesProtected s name object → object_named s name ≡ Some object
  protected_named s h = ap (λ n. elim n [ None ↦ None | Some n ↦ protected_at s n ]) h.numbered ∙ ap protected_of h.stands

  module _ (s : Scope) (m : Named) where
    object_more : object_named s name ≡ Some object → object_named (s ++ m ∷ []) name ≡ Some object
    object_more h =
        let t = names_protected s h in
        protected_named (s ++ m ∷ []) (record {
          number = t.number;
          numbered = number_kept s (m ∷ []) name t.number t.numbered;
          stands = entity_kept s (m ∷ []) t.number (Protected object) t.stands;
        })

    object_was : ((o : ProtectedObject) → m.entity ≢ Protected o) → object_named (s ++ m ∷ []) name ≡ Some object
        → (n : ℕ) × (number_of s name ≡ Some n) × (object_named s name ≡ Some object)
    object_was other h =
        let t = names_protected (s ++ m ∷ []) h in
        elim (number_added s m name t.number t.numbered) [
          | inl e ↦ elim (entity_added s m t.number (Protected object) t.stands) [
            | inl k ↦ (t.number, e, protected_named s (record { number = t.number; numbered = e; stands = k }))
            | inr k ↦ absurd (other object k.1)
          ]
          | inr e ↦ elim (entity_added s m t.number (Protected object) t.stands) [
            | inl k ↦ absurd (nothing_there t.number (Protected object) e.0 k)
            | inr k ↦ absurd (other object k.1)
          ]
        ]
      where
        nothing_there : (n : ℕ) (e : Entity) → n ≡ length s → entity_at s n ≡ Some e → ⊥
        nothing_there n e long h = by_item (slice_get s n) refl h
          where
            by_item : (o : Option Named) → slice_get s n ≡ o → entity_of o ≡ Some e → ⊥
            by_item (Some y) is k = let less = inside s n y is in omega (arith, less, long)
            by_item None is k = cc

-- ---- what is told of objects, and of nothing else

module _ {X : Type 0} (told : Option ProtectedObject → Option X) (none : told None ≡ None) (x : X) where
  pub told_object : (o : Option ProtectedObject) → told o ≡ Some x → (object : ProtectedObject) × (o ≡ Some object)
  told_object (Some object) h = (object, refl)
  told_object None h = absurd (never (sym none ∙ h))
    where
      never : None ≡ Some x → ⊥
      never e = cc

  module _ (name : List ℕ) (s : Scope) (m : Named) where
    -- what was told is told where there is more
    pub told_with_more : told (object_named s name) ≡ Some x → told (object_named (s ++ m ∷ []) name) ≡ Some x
    told_with_more h =
        let o = told_object (object_named s name) h in
        ap told (object_more name o.0 s m o.1 ∙ sym o.1) ∙ h

    -- ... and where the name more is none of a protected object, what is told there was told
    pub told_without : ((o : ProtectedObject) → m.entity ≢ Protected o) → told (object_named (s ++ m ∷ []) name) ≡ Some x
        → (n : ℕ) × (number_of s name ≡ Some n) × (told (object_named s name) ≡ Some x)
    told_without other h =
        let o = told_object (object_named (s ++ m ∷ []) name) h in
        let was = object_was name o.0 s m other o.1 in
        (was.0, was.1, ap told (was.2 ∙ sym o.1) ∙ h)
