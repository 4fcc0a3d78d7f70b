-- Names that are added stand behind those in front of them, formals too; and what the name of a subprogram tells.
use Rattle.std.proofs.Common.{◌≡◌, ℕ, ◌+◌, Bool, true, false, cond, List, [], ◌∷◌, ◌++◌, append-nil, append_assoc, Option, Some, None, refl, sym, ap, ◌∙◌}
use Rattle.ada_tree.specs.declared.declaration.Formal.{Formal}
use Rattle.types.specs.Entities.{Entity, Profile, Subprogram}
use Rattle.types.specs.Scopes.{Scope, entity_at, is_visible, number_of, with_name}
use Rattle.expr_soundness.specs.type_rules.specs.ObjectRules.{object_entity}
use Rattle.expr_soundness.specs.type_rules.specs.SubtypeNames.{subtype_of}
use Rattle.program_soundness.specs.declaration_rules.specs.BodyNames.{formal_role, formal_scope, formals_scope}
use Rattle.program_soundness.proofs.Listing.{same_some}
use Rattle.program_soundness.proofs.WiderScopes.{stands}
use Rattle.expr_code.specs.Seeing.{NamesProfile, profile_named, subprogram_profile}

-- ---- formals are visible behind the names in front of them

pub with_behind : (s : Scope) (name : List ℕ) (e : Entity) → (more : Scope) × (with_name s name e ≡ s ++ more)
with_behind s name e = by_test (is_visible s name)
  where
    by_test : (b : Bool) → (more : Scope) × (cond b s (s ++ record { name = name; entity = e } ∷ []) ≡ s ++ more)
    by_test true = ([], sym (append-nil s))
    by_test false = (record { name = name; entity = e } ∷ [], refl)

pub formals_behind : (s : Scope) (fs : List Formal) → (more : Scope) × (formals_scope s fs ≡ s ++ more)
formals_behind s [] = ([], sym (append-nil s))
formals_behind s (f ∷ fs) =
    let one = with_behind s f.name.name (object_entity (formal_role f.mode) (subtype_of s f.subtype)) in
    let rest = formals_behind (formal_scope s f) fs in
    (one.0 ++ rest.0, rest.1 ∙ ap (λ l. l ++ rest.0) one.1 ∙ append_assoc s one.0 rest.0)

-- ---- a name that stands for a subprogram

pub named_there : (s : Scope) (name : List ℕ) (p : Profile) → profile_named s name ≡ Some p → NamesProfile s name p
named_there s name p h = by_number (number_of s name) refl h
  where
    by_entity : (o : Option Entity) → subprogram_profile o ≡ Some p → o ≡ Some (Subprogram p)
    by_entity (Some (Subprogram q)) k = ap (λ x. Some (Subprogram x)) (same_some q p k)
    by_entity (Some e) k = cc
    by_entity None k = cc

    by_number : (o : Option ℕ) → number_of s name ≡ o → elim o [ None ↦ None | Some n ↦ subprogram_profile (entity_at s n) ] ≡ Some p → NamesProfile s name p
    by_number None e k = cc
    by_number (Some n) e k = record { number = n; numbered = e; stands = by_entity (entity_at s n) k }
