-- What each kind of item declares, told by what its name stands for.
use Rattle.std.proofs.Common.{◌≡◌, ℕ, List, [], ◌∷◌, Bool, true, false, ◌&&◌, Option, Some, None, refl}
use Rattle.expr_soundness.specs.ada_tree.specs.StatementTree.{ObjectTree}
use Rattle.expr_soundness.specs.ada_tree.specs.ProgramTree.{DefinitionTree, Integer, Array, Record, Subtype as SubtypeOf}
use Rattle.types.specs.declared.entity.RecordComponent.{RecordComponent}
use Rattle.types.specs.declared.entity.Role.{Role}
use Rattle.types.specs.declared.entity.Role.TheVariants as role
use Rattle.types.specs.declared.entity.Subtype.{Subtype}
use Rattle.types.specs.declared.entity.Value.{Value as Scalar}
use Rattle.types.specs.Entities.{Entity, Profile, TypeForm, Arrays, OfType, OfSubtype, Object, Constant, Literal, Exception, Subprogram, Entry, Predefined, Put, Task, Protected, LibraryUnit, Doubtful}
use Rattle.types.specs.Scopes.{Scope}
use Rattle.expr_soundness.specs.type_rules.specs.ObjectRules.{constant_entity, initial_scalar, object_entity, package_object_entity}
use Rattle.expr_soundness.specs.type_rules.specs.ProfileRules.{profile_entity}
use Rattle.expr_soundness.specs.type_rules.specs.SubtypeNames.{if_integer, subtype_of}
use Rattle.expr_soundness.specs.type_rules.specs.TypeRules.{array_entity, composite, definition_entity, index_subtype, integer_entity, narrowed, range_subtype, record_components, record_entity, short_length, subtype_entity}
use Rattle.expr_soundness.specs.expr_rules.specs.declared.own.Wanted.TheVariants as wanted
use Rattle.legality.proofs.Made.{NoUnits, Times, Io, TimesIo, IoTimes, Units, seen}

-- ---- tests

abbrev pub is_profile : Entity → Bool
is_profile (Subprogram p) = true
is_profile e = false

abbrev pub is_object : Entity → Bool
is_object (Object r t) = true
is_object e = false

abbrev pub is_protected : Entity → Bool
is_protected (Protected o) = true
is_protected e = false

-- ---- declarations that pass no test of another kind

module _ (test : Entity → Bool) (no_doubt : test Doubtful ≡ false) where
  integer_plain : ((form : TypeForm) (t : Subtype) → test (OfType form t) ≡ false) → (o : Option Subtype) → test (integer_entity o) ≡ false
  integer_plain no_type (Some t) = no_type _ t
  integer_plain no_type None = no_doubt

  array_plain : ((form : TypeForm) (t : Subtype) → test (OfType form t) ≡ false) → (s : Scope) (a b : Option Subtype) → test (array_entity s a b) ≡ false
  array_plain no_type s (Some index) (Some component) = by_length (short_length index)
    where
      by_length : (o : Option ℕ) → test (elim o [ Some n ↦ composite s (Arrays index n component) | None ↦ Doubtful ]) ≡ false
      by_length (Some n) = no_type _ _
      by_length None = no_doubt
  array_plain no_type s (Some index) None = no_doubt
  array_plain no_type s None b = no_doubt

  record_plain : ((form : TypeForm) (t : Subtype) → test (OfType form t) ≡ false) → (s : Scope) (o : Option (List RecordComponent)) → test (record_entity s o) ≡ false
  record_plain no_type s (Some cs) = no_type _ _
  record_plain no_type s None = no_doubt

  subtype_plain : ((t : Subtype) → test (OfSubtype t) ≡ false) → (o : Option Subtype) → test (subtype_entity o) ≡ false
  subtype_plain no_subtype (Some t) = no_subtype t
  subtype_plain no_subtype None = no_doubt

  pub definition_plain : ((form : TypeForm) (t : Subtype) → test (OfType form t) ≡ false) → ((t : Subtype) → test (OfSubtype t) ≡ false) → (s : Scope) (d : DefinitionTree)
      → test (definition_entity s d) ≡ false
  definition_plain no_type no_subtype s (Integer r) = integer_plain no_type (range_subtype s _ wanted.AnyInteger None r)
  definition_plain no_type no_subtype s (Array index component) = array_plain no_type s (index_subtype s index) (subtype_of s component)
  definition_plain no_type no_subtype s (Record cs) = record_plain no_type s (record_components s cs)
  definition_plain no_type no_subtype s (SubtypeOf name None) = subtype_plain no_subtype (subtype_of s name)
  definition_plain no_type no_subtype s (SubtypeOf name (Some r)) = subtype_plain no_subtype (narrowed s (if_integer s (subtype_of s name)) r)

  constant_plain : ((t : Subtype) (v : Option Scalar) → test (Constant t v) ≡ false) → (t : Option Subtype) (v : Option Scalar) → test (constant_entity t v) ≡ false
  constant_plain none (Some t) (Some v) = none t (Some v)
  constant_plain none (Some t) None = no_doubt
  constant_plain none None v = no_doubt

  object_plain : ((r : Role) (t : Subtype) → test (Object r t) ≡ false) → (r : Role) (t : Option Subtype) → test (object_entity r t) ≡ false
  object_plain none r (Some t) = none r t
  object_plain none r None = no_doubt

  pub package_object_plain : ((r : Role) (t : Subtype) → test (Object r t) ≡ false) → ((t : Subtype) (v : Option Scalar) → test (Constant t v) ≡ false) → (s : Scope) (d : ObjectTree)
      → test (package_object_entity s d) ≡ false
  package_object_plain objects constants s d = by_constant d.constant
    where
      by_constant : (b : Bool)
          → test (elim b [ true ↦ constant_entity (subtype_of s d.subtype) (initial_scalar s (subtype_of s d.subtype) d.value) | false ↦ object_entity role.Variable (subtype_of s d.subtype) ]) ≡ false
      by_constant true = constant_plain constants (subtype_of s d.subtype) (initial_scalar s (subtype_of s d.subtype) d.value)
      by_constant false = object_plain objects role.Variable (subtype_of s d.subtype)

  pub profile_plain : ((p : Profile) → test (Subprogram p) ≡ false) → (o : Option Profile) → test (profile_entity o) ≡ false
  profile_plain none (Some p) = none p
  profile_plain none None = no_doubt

-- ---- in front of the package

abbrev pub is_simple : Entity → Bool
is_simple (OfType form t) = true
is_simple (OfSubtype t) = true
is_simple (Literal b) = true
is_simple Exception = true
is_simple (Predefined o p) = true
is_simple Put = true
is_simple LibraryUnit = true
is_simple e = false

abbrev pub all_simple : Scope → Bool
all_simple [] = true
all_simple (n ∷ rest) = is_simple n.entity && all_simple rest

pub seen_simple : (u : Units) → all_simple (seen u) ≡ true
seen_simple NoUnits = refl
seen_simple Times = refl
seen_simple Io = refl
seen_simple TimesIo = refl
seen_simple IoTimes = refl

pub simple_kinds : (e : Entity) → is_simple e ≡ true → (is_profile e ≡ false) × (is_object e ≡ false) × (is_protected e ≡ false)
simple_kinds (OfType form t) h = (refl, refl, refl)
simple_kinds (OfSubtype t) h = (refl, refl, refl)
simple_kinds (Literal b) h = (refl, refl, refl)
simple_kinds Exception h = (refl, refl, refl)
simple_kinds (Predefined o p) h = (refl, refl, refl)
simple_kinds Put h = (refl, refl, refl)
simple_kinds LibraryUnit h = (refl, refl, refl)
simple_kinds (Object r t) h = cc
simple_kinds (Constant t v) h = cc
simple_kinds (Subprogram p) h = cc
simple_kinds (Entry p) h = cc
simple_kinds (Task n) h = cc
simple_kinds (Protected o) h = cc
simple_kinds Doubtful h = cc
