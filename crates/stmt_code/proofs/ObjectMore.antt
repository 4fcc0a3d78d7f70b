-- With an object more visible, or any names behind others: what has a profile there had it before, and subtypes and types are the same.
use Rattle.std.proofs.Common.{◌≡◌, ◌++◌, inl, inr, ℕ, [], ◌∷◌, Bool, true, false, List, Option, Some, None, refl, sym, ap, ◌∙◌}
use Rattle.ada_tree.specs.declared.expression.Identifier.{Identifier}
use Rattle.types.specs.declared.entity.FormalParameter.{FormalParameter}
use Rattle.types.specs.declared.entity.Role.{Role}
use Rattle.types.specs.declared.entity.Subtype.{Subtype}
use Rattle.types.specs.declared.standing.Callee.{Callee}
use Rattle.types.specs.declared.standing.Callee.TheVariants as callee
use Rattle.types.specs.Entities.{Entity, Object, Profile}
use Rattle.types.specs.Scopes.{Scope, entity_at, entity_of, number_of, profile_of, protected_at, protected_of}
use Rattle.types.specs.Standings.{callee_profile, profile_among}
use Rattle.type_rules.specs.ObjectRules.{role_of}
use Rattle.type_rules.specs.SubtypeNames.{entity_at_or_none, subtype_in, subtype_of}
use Rattle.expr_soundness.specs.SoundScopes.{IsKnown, IsSoundObject}
use Rattle.expr_soundness.proofs.Growing.{grown, object_named, test_kept}
use Rattle.expr_soundness.proofs.Positions.{entity_added, entity_kept, item_added, number_added, number_kept}
use Rattle.expr_code.specs.Providing.{AreScalar, is_scalar_form}
use Rattle.expr_code.specs.Seeing.{external_profile, profile_behind, profile_named, subprogram_profile}

no_profile : (p : Profile) → None ≡ Some p → ⊥
no_profile p h = cc

-- ---- profiles by their names

abbrev pub profile_by : Scope → Option ℕ → Option Profile
profile_by s o = elim o [ None ↦ None | Some n ↦ subprogram_profile (entity_at s n) ]

abbrev behind_by : Scope → (operation : List ℕ) → Option ℕ → Option Profile
behind_by s operation o = profile_behind (elim o [ None ↦ None | Some n ↦ protected_at s n ]) operation

-- ---- with names behind them

module _ (s more : Scope) where
  pub scalar_kept : (fs : List FormalParameter) → AreScalar s fs → AreScalar (s ++ more) fs
  scalar_kept [] h = tt
  scalar_kept (f ∷ fs) h = (test_kept s (s ++ more) (grown s more) is_scalar_form refl f.subtype.type_number h.0, scalar_kept fs h.1)

  -- a subtype that is named there is the same
  pub subtype_kept : (name : Identifier) (t : Subtype) → subtype_of s name ≡ Some t → subtype_of (s ++ more) name ≡ Some t
  subtype_kept name t h = by_number (number_of s name.name) refl h
    where
      by_entity : (n : ℕ) (o : Option Entity) → number_of s name.name ≡ Some n → entity_at s n ≡ o → subtype_in o ≡ Some t
          → subtype_of (s ++ more) name ≡ Some t
      by_entity n (Some e) is at k =
          ap (λ m. subtype_in (entity_at_or_none (s ++ more) m)) (number_kept s more name.name n is) ∙ ap subtype_in (entity_kept s more n e at) ∙ k
      by_entity n None is at k = absurd cc

      by_number : (o : Option ℕ) → number_of s name.name ≡ o → subtype_in (entity_at_or_none s o) ≡ Some t → subtype_of (s ++ more) name ≡ Some t
      by_number (Some n) is k = by_entity n (entity_at s n) is refl k
      by_number None is k = absurd cc

-- ---- with an object more

module _ (s : Scope) (name : List ℕ) (r : Role) (t : Subtype) where
  abbrev more : Scope
  more = object_named name r t ∷ []

  -- what has a profile had it before
  profile_before : (g : Option Entity → Option Profile) → g None ≡ None → g (Some (Object r t)) ≡ None → (n : ℕ) (p : Profile)
      → g (entity_at (s ++ more) n) ≡ Some p → g (entity_at s n) ≡ Some p
  profile_before g none object n p h = by_entity (entity_at (s ++ more) n) refl h
    where
      by_entity : (o : Option Entity) → entity_at (s ++ more) n ≡ o → g o ≡ Some p → g (entity_at s n) ≡ Some p
      by_entity (Some e) is k =
          elim (entity_added s (object_named name r t) n e is) [
            | inl i ↦ ap g i ∙ k
            | inr i ↦ absurd (no_profile p (sym object ∙ ap (λ y. g (Some y)) i.1 ∙ k))
          ]
      by_entity None is k = absurd (no_profile p (sym none ∙ k))

  pub callee_before : (f : Callee) (p : Profile) → callee_profile (s ++ more) f ≡ Some p → callee_profile s f ≡ Some p
  callee_before (callee.Direct n) p h = profile_before profile_of refl refl n p h
  callee_before (callee.Operation o k) p h = profile_before (λ e. profile_among (protected_of e) k) refl refl o p h

  pub named_before : (other : List ℕ) (p : Profile) → profile_named (s ++ more) other ≡ Some p → profile_named s other ≡ Some p
  named_before other p h = by_number (number_of (s ++ more) other) refl h
    where
      by_number : (o : Option ℕ) → number_of (s ++ more) other ≡ o → profile_by (s ++ more) o ≡ Some p → profile_named s other ≡ Some p
      by_number (Some n) is k =
          elim (number_added s (object_named name r t) other n is) [
            | inl i ↦ ap (profile_by s) i ∙ profile_before subprogram_profile refl refl n p k
            | inr i ↦ absurd (no_profile p (sym (ap (λ m. subprogram_profile (entity_at (s ++ more) m)) i.0 ∙ ap (λ x. subprogram_profile (entity_of x))
                (item_added s (object_named name r t))) ∙ k))
          ]
      by_number None is k = absurd (no_profile p k)

  pub behind_before : (object operation : List ℕ) (p : Profile) → external_profile (s ++ more) object operation ≡ Some p
      → external_profile s object operation ≡ Some p
  behind_before object operation p h = by_number (number_of (s ++ more) object) refl h
    where
      by_number : (o : Option ℕ) → number_of (s ++ more) object ≡ o → behind_by (s ++ more) operation o ≡ Some p
          → external_profile s object operation ≡ Some p
      by_number (Some n) is k =
          elim (number_added s (object_named name r t) object n is) [
            | inl i ↦ ap (behind_by s operation) i ∙ profile_before (λ e. profile_behind (protected_of e) operation) refl refl n p k
            | inr i ↦ absurd (no_profile p (sym (ap (λ m. behind_by (s ++ more) operation (Some m)) i.0
                ∙ ap (λ x. profile_behind (protected_of (entity_of x)) operation) (item_added s (object_named name r t))) ∙ k))
          ]
      by_number None is k = absurd (no_profile p k)

pub constant_or_variable : (s : Scope) (b : Bool) (t : Subtype) → IsKnown s t → IsSoundObject s (role_of b) t
constant_or_variable s true t h = h
constant_or_variable s false t h = h
