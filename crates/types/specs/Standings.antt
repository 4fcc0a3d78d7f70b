-- What a name stands for, part by part (RM 4.1): an object, a value, a type, what is called. It is told by types and constants alone: nothing is evaluated.
use Rattle.std.specs.Prelude.{ℕ, suc, nat_eq, ℤ, pos, Bool, true, List, [], ◌∷◌, Option, Some, None, bytes_eq, codes, position, slice_get, if◌then◌else◌}
use Rattle.ada_tree.specs.declared.expression.Identifier.{Identifier}
use Rattle.ada_tree.specs.ExpressionTree.{SelectorTrees, NoSelectors, MoreSelectors, SelectorTree, Component, Arguments, Attribute, ArgumentTrees, NoArguments, MoreArguments}
use Rattle.types.specs.declared.entity.Subtype.{Subtype}
use Rattle.types.specs.declared.entity.Role.{Role}
use Rattle.types.specs.declared.entity.Role.TheVariants as role
use Rattle.types.specs.declared.entity.Value.TheVariants as scalar
use Rattle.types.specs.declared.entity.RecordComponent.{RecordComponent}
use Rattle.types.specs.declared.standing.Callee.{Callee}
use Rattle.types.specs.declared.standing.Callee.TheVariants as callee
use Rattle.types.specs.declared.standing.Standing.{Standing}
use Rattle.types.specs.declared.standing.Standing.TheVariants as standing
use Rattle.types.specs.Entities.{TypeForm, Integers, Arrays, Records, Profile, Operation, ProtectedObject, Entity, OfType, OfSubtype, Object, Constant, Literal, Exception, Subprogram, Entry, Predefined, Put, Task, Protected, LibraryUnit, Doubtful}
use Rattle.types.specs.Scopes.{Scope, entity_at, number_of, form_at, profile_at, protected_at, base_range_of, boolean}

-- what the name with this number stands for before its further parts
abbrev pub stands_for : ℕ → Option Entity → Standing
stands_for n (Some (OfType form t)) = standing.Named t
stands_for n (Some (OfSubtype t)) = standing.Named t
stands_for n (Some (Object r t)) = standing.Part r t
stands_for n (Some (Constant t v)) = standing.Fixed t v
stands_for n (Some (Literal b)) = standing.Given boolean (Some (scalar.Truth b))
stands_for n (Some (Subprogram p)) = standing.Callee (callee.Direct n)
stands_for n (Some (Entry p)) = standing.Callee (callee.Direct n)
stands_for n (Some (Predefined o p)) = standing.Callee (callee.Direct n)
stands_for n (Some Put) = standing.Put
stands_for n (Some (Protected p)) = standing.Protected n
stands_for n (Some Exception) = standing.Other
stands_for n (Some (Task priority)) = standing.Task
stands_for n (Some LibraryUnit) = standing.Other
stands_for n (Some Doubtful) = standing.Doubtful
stands_for n None = standing.Doubtful

abbrev pub stands_first : Scope → Option ℕ → Standing
stands_first s (Some n) = stands_for n (entity_at s n)
stands_first s None = standing.Doubtful

-- a component of a record (RM 4.1.3)
abbrev pub component_of : List RecordComponent → List ℕ → Option Subtype
component_of [] name = None
component_of (c ∷ cs) name = if bytes_eq c.name name then Some c.subtype else component_of cs name

abbrev pub part_of : Role → Option Subtype → Standing
part_of r (Some t) = standing.Part r t
part_of r None = standing.Doubtful

abbrev pub component_stands : Role → Option TypeForm → List ℕ → Standing
component_stands r (Some (Records cs)) name = part_of r (component_of cs name)
component_stands r form name = standing.Doubtful

abbrev pub count : ArgumentTrees → ℕ
count NoArguments = 0
count (MoreArguments a rest) = suc (count rest)

abbrev pub is_single : ArgumentTrees → Bool
is_single a = nat_eq (count a) 1

-- a component of an array (RM 4.1.1)
abbrev pub element_stands : Role → Option TypeForm → Bool → Standing
element_stands r (Some (Arrays index length element)) true = standing.Part r element
element_stands r form single = standing.Doubtful

-- a conversion to an integer type (RM 4.6)
abbrev pub conversion_stands : Subtype → Option TypeForm → Bool → Standing
conversion_stands t (Some Integers) true = standing.Given t None
conversion_stands t form single = standing.Doubtful

-- ---- attributes (RM 3.5, 3.6.2)

abbrev pub bound_stands : Subtype → ℤ → Standing
bound_stands t z = standing.Given (base_range_of t.type_number) (Some (scalar.Number z))

abbrev pub bounds_stand : Subtype → List ℕ → Standing
bounds_stand t name =
    if bytes_eq name (codes "FIRST") then bound_stands t t.first
    else (if bytes_eq name (codes "LAST") then bound_stands t t.last else standing.Doubtful)

-- First and Last are those of the index; Length is of no type, like a literal
abbrev pub array_attribute : Subtype → ℕ → List ℕ → Standing
array_attribute index length name = if bytes_eq name (codes "LENGTH") then standing.Plain (pos length) else bounds_stand index name

abbrev pub subtype_attribute : Subtype → Option TypeForm → List ℕ → Standing
subtype_attribute t (Some Integers) name = bounds_stand t name
subtype_attribute t (Some (Arrays index length element)) name = array_attribute index length name
subtype_attribute t form name = standing.Doubtful

abbrev pub object_attribute : Option TypeForm → List ℕ → Standing
object_attribute (Some (Arrays index length element)) name = array_attribute index length name
object_attribute form name = standing.Doubtful

-- ---- calls (RM 6.4, 9.5)

-- a function's gives its result, every other one is a statement
abbrev pub result_stands : Option Subtype → Standing
result_stands (Some t) = standing.Given t None
result_stands None = standing.Statement

abbrev pub call_stands : Option Profile → Standing
call_stands (Some p) = result_stands p.result
call_stands None = standing.Doubtful

-- the profile of the operation at this position
abbrev pub operation_profile : Option Operation → Option Profile
operation_profile (Some o) = Some o.profile
operation_profile None = None

abbrev pub profile_among : Option ProtectedObject → ℕ → Option Profile
profile_among (Some p) n = operation_profile (slice_get p.operations n)
profile_among None n = None

abbrev pub callee_profile : Scope → Callee → Option Profile
callee_profile s (callee.Direct n) = profile_at s n
callee_profile s (callee.Operation object n) = profile_among (protected_at s object) n

-- an operation of a protected object, by its name
abbrev pub called_operation : ℕ → Option ℕ → Standing
called_operation object (Some n) = standing.Callee (callee.Operation object n)
called_operation object None = standing.Doubtful

abbrev pub operation_stands : ℕ → Option ProtectedObject → List ℕ → Standing
operation_stands object (Some p) name = called_operation object (position (λ o. bytes_eq o.name name) p.operations)
operation_stands object None name = standing.Doubtful

-- ---- whole names

abbrev pub object_select : Scope → Role → Subtype → SelectorTree → Standing
object_select s r t (Component name) = component_stands r (form_at s t.type_number) name.name
object_select s r t (Arguments a) = element_stands r (form_at s t.type_number) (is_single a)
object_select s r t (Attribute name) = object_attribute (form_at s t.type_number) name.name

-- what it stands for with one part more; what has no meaning is doubtful from there on
abbrev pub select : Scope → Standing → SelectorTree → Standing
select s (standing.Part r t) x = object_select s r t x
select s (standing.Fixed t v) x = object_select s role.Constant t x
select s (standing.Named t) (Arguments a) = conversion_stands t (form_at s t.type_number) (is_single a)
select s (standing.Named t) (Attribute name) = subtype_attribute t (form_at s t.type_number) name.name
select s (standing.Callee f) (Arguments a) = call_stands (callee_profile s f)
select s standing.Put (Arguments a) = standing.Statement
select s (standing.Protected n) (Component name) = operation_stands n (protected_at s n) name.name
select s w x = standing.Doubtful

-- what it stands for where it ends: what is called alone is a call (RM 6.4)
abbrev pub settle : Scope → Standing → Standing
settle s (standing.Callee f) = call_stands (callee_profile s f)
settle s standing.Put = standing.Statement
settle s (standing.Named t) = standing.Other
settle s (standing.Protected n) = standing.Other
settle s standing.Task = standing.Other
settle s w = w

abbrev pub select_all : Scope → Standing → SelectorTrees → Standing
select_all s w NoSelectors = settle s w
select_all s w (MoreSelectors x rest) = select_all s (select s w x) rest

-- what a whole name stands for
abbrev pub standing_of : Scope → Identifier → SelectorTrees → Standing
standing_of s first selectors = select_all s (stands_first s (number_of s first.name)) selectors
