-- Names in front of declarations and bodies of a text: objects are variables, and record types have a component.
use Rattle.std.proofs.Common.{◌≡◌, ℕ, Bool, true, false, List, [], ◌∷◌, Option, Some, None, refl}
use Rattle.std.specs.List.{list_all}
use Rattle.ada_tree.specs.declared.declaration.Component.{Component}
use Rattle.ada_tree.specs.StatementTree.{ObjectTree}
use Rattle.ada_tree.specs.ProgramTree.{Array, BodyItemTree, DefinitionTree, Integer, OfType, PackageTree, Record, Subtype as SubtypeOf}
use Rattle.types.specs.declared.entity.RecordComponent.{RecordComponent}
use Rattle.types.specs.declared.entity.Role.TheVariants as role
use Rattle.types.specs.declared.entity.Subtype.{Subtype}
use Rattle.types.specs.declared.entity.Value.{Value as Scalar}
use Rattle.types.specs.Entities.{Doubtful, Entity, Object, Records, TypeForm}
use Rattle.types.specs.Entities as entity
use Rattle.types.specs.Scopes.{Scope, entity_at}
use Rattle.expr_soundness.specs.type_rules.specs.ObjectRules.{constant_entity, initial_scalar, object_entity, package_object_entity}
use Rattle.expr_soundness.specs.type_rules.specs.SubtypeNames.{if_integer, subtype_of}
use Rattle.expr_soundness.specs.type_rules.specs.TypeRules.{array_entity, component_and, composite, definition_entity, index_subtype, integer_entity, narrowed, record_components, record_entity, short_length, subtype_entity}
use Rattle.program_soundness.specs.Fronts.{scope_at, start_in}
use Rattle.source_laws.proofs.NamesTested.{AllPass, PassAlways, fronts_pass, passes_at, start_passes}
use Rattle.source_laws.proofs.WholeItems.{has_components, is_whole_body_item}

abbrev pub has_a_part : TypeForm → Bool
has_a_part (Records []) = false
has_a_part form = true

abbrev pub is_bounded : Entity → Bool
is_bounded (entity.OfType form t) = has_a_part form
is_bounded (Object role.Variable t) = true
is_bounded (Object r t) = false
is_bounded e = true

abbrev pub AreBounded : Scope → Type 0
AreBounded s = AllPass is_bounded s

bounded_always : PassAlways is_bounded
bounded_always =
    record {
      visible = refl;
      times = λ n. refl;
      spans = λ n. refl;
      predefined_ = λ o p. refl;
      put = refl;
      unit_ = refl;
      exception = refl;
      task = λ n. refl;
      subprogram = λ p. refl;
      protected_ = λ o. refl;
      doubtful = refl;
    }

pub start_bounded : (o : Option PackageTree) → AreBounded (start_in o)
start_bounded o = start_passes is_bounded bounded_always o

-- ---- types and objects

array_bounded : (s : Scope) (index element : Option Subtype) → is_bounded (array_entity s index element) ≡ true
array_bounded s (Some index) (Some element) = by_length (short_length index)
  where
    by_length : (o : Option ℕ) → is_bounded (elim o [ Some n ↦ composite s (entity.Arrays index n element) | None ↦ Doubtful ]) ≡ true
    by_length (Some n) = refl
    by_length None = refl
array_bounded s (Some index) None = refl
array_bounded s None element = refl

record_bounded : (s : Scope) (c : Component) (cs : List Component) → is_bounded (record_entity s (record_components s (c ∷ cs))) ≡ true
record_bounded s c cs = by_parts (subtype_of s c.subtype) (record_components s cs)
  where
    by_parts : (o : Option Subtype) (r : Option (List RecordComponent)) → is_bounded (record_entity s (component_and c o r)) ≡ true
    by_parts (Some t) (Some rest) = refl
    by_parts (Some t) None = refl
    by_parts None r = refl

integer_bounded : (o : Option Subtype) → is_bounded (integer_entity o) ≡ true
integer_bounded (Some t) = refl
integer_bounded None = refl

subtype_bounded : (o : Option Subtype) → is_bounded (subtype_entity o) ≡ true
subtype_bounded (Some t) = refl
subtype_bounded None = refl

type_bounded : (s : Scope) (d : DefinitionTree) → has_components d ≡ true → is_bounded (definition_entity s d) ≡ true
type_bounded s (Integer r) h = integer_bounded _
type_bounded s (Array index element) h = array_bounded s (index_subtype s index) (subtype_of s element)
type_bounded s (Record []) h = cc
type_bounded s (Record (c ∷ cs)) h = record_bounded s c cs
type_bounded s (SubtypeOf name None) h = subtype_bounded (subtype_of s name)
type_bounded s (SubtypeOf name (Some r)) h = subtype_bounded (narrowed s (if_integer s (subtype_of s name)) r)

object_bounded : (s : Scope) (d : ObjectTree) → is_bounded (package_object_entity s d) ≡ true
object_bounded s d = by_constant d.constant (subtype_of s d.subtype) (initial_scalar s (subtype_of s d.subtype) d.value)
  where
    by_constant : (b : Bool) (o : Option Subtype) (v : Option Scalar)
        → is_bounded (elim b [ true ↦ constant_entity o v | false ↦ object_entity role.Variable o ]) ≡ true
    by_constant true (Some t) (Some v) = refl
    by_constant true (Some t) None = refl
    by_constant true None v = refl
    by_constant false (Some t) v = refl
    by_constant false None v = refl

-- ---- declarations and bodies

pub fronts_bounded : (s : Scope) (xs : List BodyItemTree) (place : ℕ) → AreBounded s → list_all is_whole_body_item xs ≡ true → AreBounded (scope_at s xs place)
fronts_bounded s xs place h w =
    fronts_pass is_bounded bounded_always is_whole_body_item (λ u k d whole. type_bounded u d.definition whole) (λ u k d whole. object_bounded u d) s xs place h
    w

-- what is told of each name
pub bounded_at : (s : Scope) (number : ℕ) (e : Entity) → AreBounded s → entity_at s number ≡ Some e → is_bounded e ≡ true
bounded_at s number e h at = passes_at is_bounded s number e h at
