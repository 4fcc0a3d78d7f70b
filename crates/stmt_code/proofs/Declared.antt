-- What legality tells of objects that are declared in bodies: their subtype, their name, which is new, and their initial value, which fits.
use Rattle.std.proofs.Common.{◌≡◌, ℕ, ◌+◌, [], ◌++◌, Option, Some, None, refl, sym, ap, ◌∙◌}
use Rattle.ada_tree.specs.ExpressionTree.{ExprTree}
use Rattle.ada_tree.specs.StatementTree.{ObjectTree}
use Rattle.types.specs.declared.entity.Subtype.{Subtype}
use Rattle.types.specs.Entities.{Doubtful, Entity, OfSubtype, OfType}
use Rattle.types.specs.Scopes.{Scope, entity_at, number_of}
use Rattle.types.specs.Shapes.{initial}
use Rattle.expr_soundness.specs.expr_rules.specs.declared.own.Wanted.TheVariants.{OfType}
use Rattle.expr_soundness.specs.expr_rules.specs.ExpressionRules.{faults_of}
use Rattle.expr_soundness.specs.expr_rules.proofs.TypedLaw.{back_empty, front_empty, unbroken}
use Rattle.type_rules.specs.ObjectRules.{local_initial_faults, local_object_faults}
use Rattle.type_rules.specs.SubtypeNames.{declared_twice, entity_at_or_none, subtype_faults, subtype_in, subtype_of, subtype_rule, wanted_by}
use Rattle.expr_soundness.specs.SoundScopes.{SoundScope}
use Rattle.part_code.specs.Emitting.{FitsIfAny}

-- what is named as the subtype is one
pub local_subtype : (s : Scope) → SoundScope s → (d : ObjectTree) → local_object_faults s d ≡ [] → subtype_of s d.subtype ≡ None → ⊥
local_subtype s sound d legal none = by_number (number_of s d.subtype.name) named none
  where
    named : subtype_faults s d.subtype ≡ []
    named = front_empty (subtype_faults s d.subtype) (local_initial_faults s d)
        (front_empty (subtype_faults s d.subtype ++ local_initial_faults s d) (declared_twice s d.name) legal)

    by_entity : (n : ℕ) (o : Option Entity) → entity_at s n ≡ o → subtype_rule d.subtype.place o ≡ [] → subtype_in o ≡ None → ⊥
    by_entity n None at h k = cc
    by_entity n (Some (OfType form t)) at h k = cc
    by_entity n (Some (OfSubtype t)) at h k = cc
    by_entity n (Some Doubtful) at h k = sound.each n Doubtful at
    by_entity n (Some e) at h k = cc

    by_number : (o : Option ℕ) → subtype_rule d.subtype.place (entity_at_or_none s o) ≡ [] → subtype_in (entity_at_or_none s o) ≡ None → ⊥
    by_number None h k = cc
    by_number (Some n) h k = by_entity n (entity_at s n) refl h k

pub object_new : (s : Scope) (d : ObjectTree) → local_object_faults s d ≡ [] → declared_twice s d.name ≡ []
object_new s d legal = back_empty (subtype_faults s d.subtype ++ local_initial_faults s d) (declared_twice s d.name) legal

-- the initial value is fit for the subtype
pub initial_fit : (s : Scope) (d : ObjectTree) (t : Subtype) → subtype_of s d.subtype ≡ Some t → local_object_faults s d ≡ [] → FitsIfAny s t d.value
initial_fit s d t named legal = by_value d.value initial
  where
    initial : local_initial_faults s d ≡ []
    initial = back_empty (subtype_faults s d.subtype) (local_initial_faults s d)
        (front_empty (subtype_faults s d.subtype ++ local_initial_faults s d) (declared_twice s d.name) legal)

    by_value : (o : Option ExprTree) → local_initial_faults s (record d { value = o }) ≡ [] → FitsIfAny s t o
    by_value (Some e) h = record {
      wanted = OfType t.type_number;
      fits = refl;
      unbroken = ap (λ o. faults_of s (wanted_by o) e) (sym named) ∙ h;
    }
    by_value None h = tt
