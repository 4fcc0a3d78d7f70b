-- Types and subtypes (RM 3.2 to 3.8; docs/LANGUAGE.md, "Rules of declarations").
use Rattle.std.specs.Prelude.{ℕ, suc, ℤ, pos, ◌-ℤ◌, unsigned_abs, Bool, true, false, not, List, [], ◌∷◌, ◌++◌, length, Option, Some, None, is_none, int_le, nat_lt, bytes_eq}
use Rattle.std.specs.List.{list_any}
use Rattle.base.specs.declared.faults.TheConstants.{DECLARED_TWICE, NO_MEANING, WRONG_STATIC_VALUE, LIMIT_PASSED}
use Rattle.base.specs.declared.limits.TheConstants.{COMPONENTS}
use Rattle.ada_tree.specs.declared.expression.Identifier.{Identifier}
use Rattle.ada_tree.specs.declared.declaration.Component.{Component}
use Rattle.ada_tree.specs.ExpressionTree.{ExprTree}
use Rattle.ada_tree.specs.StatementTree.{RangeTree}
use Rattle.ada_tree.specs.ProgramTree.{TypeTree, DefinitionTree, Integer, Array, Record, Subtype as SubtypeOf, IndexTree, OfRange, OfSubtype as OfName}
use Rattle.types.specs.declared.entity.Subtype.{Subtype}
use Rattle.types.specs.declared.entity.RecordComponent.{RecordComponent}
use Rattle.types.specs.Entities.{Entity, TypeForm, Integers, Arrays, Records, OfType, OfSubtype, Doubtful}
use Rattle.types.specs.Scopes.{Scope, integer, integer_type, with_name}
use Rattle.types.specs.Values.{Value, Number}
use Rattle.types.specs.Statics.{start_of}
use Rattle.expr_rules.specs.declared.own.Wanted.{Wanted}
use Rattle.expr_rules.specs.declared.own.Wanted.TheVariants as wanted
use Rattle.expr_rules.specs.Faults.{Faults, rule}
use Rattle.expr_rules.specs.StaticRules.{static_faults, static_scalar}
use Rattle.type_rules.specs.SubtypeNames.{declared_twice, if_integer, is_other, subtype_of, subtype_faults}

-- ---- ranges that are declared: static bounds, and not null

abbrev pub whole_of : Option Value → Option ℤ
whole_of (Some (Number z)) = Some z
whole_of v = None

abbrev pub static_whole : Scope → Wanted → Option Subtype → ExprTree → Option ℤ
static_whole s w within e = whole_of (static_scalar s w within e)

-- 15, at the first bound: the range is null
abbrev pub null_rule : (place : ℕ) → Option ℤ → Option ℤ → Faults
null_rule place (Some first) (Some last) = rule WRONG_STATIC_VALUE place (not (int_le first last))
null_rule place first last = []

abbrev pub range_faults : Scope → Wanted → Option Subtype → RangeTree → Faults
range_faults s w within r =
    static_faults s w within r.first ++ static_faults s w within r.last
    ++ null_rule (start_of r.first) (static_whole s w within r.first) (static_whole s w within r.last)

-- the subtype of this type with these bounds, where both are known and the range is not null
abbrev pub bounded : ℕ → Option ℤ → Option ℤ → Option Subtype
bounded n (Some first) (Some last) = elim (int_le first last) [ true ↦ Some (record { type_number = n; first = first; last = last }) | false ↦ None ]
bounded n first last = None

abbrev pub range_subtype : Scope → ℕ → Wanted → Option Subtype → RangeTree → Option Subtype
range_subtype s n w within r = bounded n (static_whole s w within r.first) (static_whole s w within r.last)

-- ---- arrays (RM 3.6)

abbrev pub length_of : Subtype → ℕ
length_of t = suc (unsigned_abs (t.last -ℤ t.first))

-- the number of components, where an array may have so many
abbrev pub short_length : Subtype → Option ℕ
short_length t = elim (nat_lt COMPONENTS (length_of t)) [ true ↦ None | false ↦ Some (length_of t) ]

abbrev pub is_long : Option Subtype → Bool
is_long (Some t) = is_none (short_length t)
is_long None = false

abbrev pub index_place : IndexTree → ℕ
index_place (OfRange r) = start_of r.first
index_place (OfName name) = name.place

-- `array (A .. B)` is indexed by Integer
abbrev pub index_subtype : Scope → IndexTree → Option Subtype
index_subtype s (OfRange r) = range_subtype s integer_type (wanted.OfType integer_type) (Some integer) r
index_subtype s (OfName name) = if_integer s (subtype_of s name)

abbrev pub index_faults : Scope → IndexTree → Faults
index_faults s (OfRange r) = range_faults s (wanted.OfType integer_type) (Some integer) r
index_faults s (OfName name) = subtype_faults s name ++ rule NO_MEANING name.place (is_other s (subtype_of s name))

-- ---- records (RM 3.8)

abbrev pub is_named_in : List Component → List ℕ → Bool
is_named_in cs name = list_any (λ c. bytes_eq c.name.name name) cs

-- 11, at the second: two components of one name; they hide nothing else
abbrev pub component_faults : Scope → (before : List Component) → Component → Faults
component_faults s before c = rule DECLARED_TWICE c.name.place (is_named_in before c.name.name) ++ subtype_faults s c.subtype

abbrev pub components_faults : Scope → (before : List Component) → List Component → Faults
components_faults s before [] = []
components_faults s before (c ∷ cs) = component_faults s before c ++ components_faults s (before ++ c ∷ []) cs

abbrev pub component_and : Component → Option Subtype → Option (List RecordComponent) → Option (List RecordComponent)
component_and c (Some t) (Some rest) = Some (record { name = c.name.name; subtype = t } ∷ rest)
component_and c t rest = None

-- the components, where the subtype of each is known
abbrev pub record_components : Scope → List Component → Option (List RecordComponent)
record_components s [] = Some []
record_components s (c ∷ cs) = component_and c (subtype_of s c.subtype) (record_components s cs)

-- ---- type declarations

-- 23, at the range or the name of the index: more components than an array may have
abbrev pub array_faults : Scope → IndexTree → (component : Identifier) → Faults
array_faults s index component = index_faults s index ++ rule LIMIT_PASSED (index_place index) (is_long (index_subtype s index)) ++ subtype_faults s component

-- the bounds are of the type, and lie in the subtype
abbrev pub narrowed_faults : Scope → RangeTree → Option Subtype → Faults
narrowed_faults s r (Some t) = range_faults s (wanted.OfType t.type_number) (Some t) r
narrowed_faults s r None = range_faults s wanted.AnyInteger None r

-- 12, at the name: a range for a subtype that is no integer one
abbrev pub subtype_range_faults : Scope → Identifier → RangeTree → Faults
subtype_range_faults s name r = subtype_faults s name ++ rule NO_MEANING name.place (is_other s (subtype_of s name))
    ++ narrowed_faults s r (if_integer s (subtype_of s name))

abbrev pub definition_faults : Scope → DefinitionTree → Faults
definition_faults s (Integer r) = range_faults s wanted.AnyInteger None r
definition_faults s (Array index component) = array_faults s index component
definition_faults s (Record components) = components_faults s [] components
definition_faults s (SubtypeOf name None) = subtype_faults s name
definition_faults s (SubtypeOf name (Some r)) = subtype_range_faults s name r

-- a type's number is that of its name, which is the next one
abbrev pub composite : Scope → TypeForm → Entity
composite s form = OfType form (record { type_number = length s; first = pos 0; last = pos 0 })

abbrev pub integer_entity : Option Subtype → Entity
integer_entity (Some t) = OfType Integers t
integer_entity None = Doubtful

abbrev pub array_entity : Scope → Option Subtype → Option Subtype → Entity
array_entity s (Some index) (Some component) = elim (short_length index) [ Some n ↦ composite s (Arrays index n component) | None ↦ Doubtful ]
array_entity s index component = Doubtful

abbrev pub record_entity : Scope → Option (List RecordComponent) → Entity
record_entity s (Some components) = composite s (Records components)
record_entity s None = Doubtful

abbrev pub subtype_entity : Option Subtype → Entity
subtype_entity (Some t) = OfSubtype t
subtype_entity None = Doubtful

abbrev pub narrowed : Scope → Option Subtype → RangeTree → Option Subtype
narrowed s (Some t) r = range_subtype s t.type_number (wanted.OfType t.type_number) (Some t) r
narrowed s None r = None

abbrev pub definition_entity : Scope → DefinitionTree → Entity
definition_entity s (Integer r) = integer_entity (range_subtype s (length s) wanted.AnyInteger None r)
definition_entity s (Array index component) = array_entity s (index_subtype s index) (subtype_of s component)
definition_entity s (Record components) = record_entity s (record_components s components)
definition_entity s (SubtypeOf name None) = subtype_entity (subtype_of s name)
definition_entity s (SubtypeOf name (Some r)) = subtype_entity (narrowed s (if_integer s (subtype_of s name)) r)

abbrev pub type_faults : Scope → TypeTree → Faults
type_faults s d = definition_faults s d.definition ++ declared_twice s d.name

-- the name is visible from the end of the declaration
abbrev pub type_scope : Scope → TypeTree → Scope
type_scope s d = with_name s d.name.name (definition_entity s d.definition)
