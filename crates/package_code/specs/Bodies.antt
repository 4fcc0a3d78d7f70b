-- The bodies of a program that have code of their own, in the order of the text: those of its subprograms and tasks, and of the operations and entries of its
-- protected objects; their numbers, and what is visible in front of the parameters of each (RM 6.3, 9.1, 9.4).
use Rattle.std.specs.Prelude.{◌≡◌, ℕ, suc, false, ◌&&◌, List, [], ◌∷◌, ◌++◌, Option, Some, None, bytes_eq, take, length, if◌then◌else◌, ◌+◌, slice_get}
use Rattle.ada_tree.specs.declared.expression.Identifier.{Identifier}
use Rattle.ada_tree.specs.StatementTree.{SubprogramTree}
use Rattle.ada_tree.specs.ProgramTree.{BodyItemTree, BodyTree, EntryBody, OfItem, OperationBody, ProgramTree, ProtectedBody, ProtectedItemTree, SubprogramBody, TaskBody}
use Rattle.image.specs.declared.subprograms.Kind.{Kind}
use Rattle.image.specs.declared.subprograms.Kind.TheVariants as kinds
use Rattle.types.specs.declared.entity.RecordComponent.{RecordComponent}
use Rattle.types.specs.Places.{is_of}
use Rattle.types.specs.Scopes.{Scope, number_of}
use Rattle.type_rules.specs.ProfileRules.{subprogram_scope}
use Rattle.declaration_rules.specs.BodyNames.{components_scope, object_body_scope}
use Rattle.unit_rules.specs.ProtectedBodyRules.{components_at, operation_sees, protected_item_scope}
use Rattle.expr_soundness.specs.meaning.specs.Programs.{object_numbered, program_of}
use Rattle.program_soundness.specs.Fronts.{declared_in, front}

abbrev pub or_zero : Option ℕ → ℕ
or_zero None = 0
or_zero (Some n) = n

-- ---- their names

-- the name of a body, and the number of the protected object that it belongs to, if it is the body of an operation or an entry
pub record BodyName : Type 0 where
  pub owner : Option ℕ
  pub name : List ℕ

-- the number of the protected object of this name; a legal body has the name of one
abbrev pub object_number : Scope → Identifier → ℕ
object_number s name = or_zero (object_numbered s name)

-- the head of an operation; an entry gives back what its parameters do, as a procedure
abbrev pub own_head : ProtectedItemTree → SubprogramTree
own_head (OperationBody d b) = d
own_head (EntryBody d barrier b) = record { place = d.place; name = d.name; formals = d.formals; result = None }

abbrev pub own_name : ProtectedItemTree → List ℕ
own_name i = (own_head i).name.name

abbrev pub operation_name : (object : ℕ) → ProtectedItemTree → BodyName
operation_name o i = record { owner = Some o; name = own_name i }

abbrev pub operation_names : (object : ℕ) → List ProtectedItemTree → List BodyName
operation_names o [] = []
operation_names o (i ∷ is) = operation_name o i ∷ operation_names o is

-- of the bodies that an item is or has, where all names of the package are visible
abbrev pub names_in : Scope → BodyItemTree → List BodyName
names_in s (OfItem d) = []
names_in s (SubprogramBody d b) = record { owner = None; name = d.name.name } ∷ []
names_in s (TaskBody name b) = record { owner = None; name = name.name } ∷ []
names_in s (ProtectedBody name items end_name) = operation_names (object_number s name) items

abbrev pub names_among : Scope → List BodyItemTree → List BodyName
names_among s [] = []
names_among s (x ∷ rest) = names_in s x ++ names_among s rest

-- ---- their numbers

-- how many bodies there are among items
abbrev pub bodies_among : List BodyItemTree → ℕ
bodies_among [] = 0
bodies_among (OfItem d ∷ rest) = bodies_among rest
bodies_among (SubprogramBody d b ∷ rest) = suc (bodies_among rest)
bodies_among (TaskBody name b ∷ rest) = suc (bodies_among rest)
bodies_among (ProtectedBody name items end_name ∷ rest) = length items + bodies_among rest

-- how many stand in front of this place of the package, which is the number of the subprogram of the first body that stands there
abbrev pub bodies_before : ProgramTree → (place : ℕ) → ℕ
bodies_before t place = bodies_among (take place (declared_in t.package_))

-- the number of the first with this name that belongs to this object, or to none
abbrev pub number_from : (before : ℕ) → List BodyName → (owner : Option ℕ) → (name : List ℕ) → Option ℕ
number_from before [] owner name = None
number_from before (x ∷ rest) owner name = if is_of x.owner owner && bytes_eq x.name name then Some before else number_from (suc before) rest owner name

-- the number of the body of the subprogram or task with this name, or of the operation or entry of this object: how many bodies stand in front of it
abbrev pub number_in : ProgramTree → (owner : Option ℕ) → (name : List ℕ) → Option ℕ
number_in t owner name = number_from 0 (names_among (program_of t).scope (declared_in t.package_)) owner name

-- ---- what is compiled of each

-- a body with code of its own: whose it is, its head, what kind of subprogram it is, and the names that are visible in front of its parameters
pub record Coded : Type 0 where
  pub owner : Option ℕ
  pub head : SubprogramTree
  pub body : BodyTree
  pub kind : Kind
  pub front : Scope

abbrev pub of_subprogram : Scope → SubprogramTree → BodyTree → Coded
of_subprogram s d b = record { owner = None; head = d; body = b; kind = kinds.Plain; front = s }

-- a task's is given nothing, and gives nothing back
abbrev pub of_task : Scope → Identifier → BodyTree → Coded
of_task s name b =
    record { owner = None; head = record { place = name.place; name = name; formals = []; result = None }; body = b; kind = kinds.TaskBody; front = s }

abbrev pub operation_kind : (object : ℕ) → (result : Option Identifier) → Kind
operation_kind o None = kinds.ProtectedProcedure o
operation_kind o (Some r) = kinds.ProtectedFunction o

abbrev pub own_body : ProtectedItemTree → BodyTree
own_body (OperationBody d b) = b
own_body (EntryBody d barrier b) = b

abbrev pub own_kind : (object : ℕ) → ProtectedItemTree → Kind
own_kind o (OperationBody d b) = operation_kind o d.result
own_kind o (EntryBody d barrier b) = kinds.EntryBody o

-- an operation or entry of an object, in front of whose parameters these names are visible
abbrev pub of_object : (object : ℕ) → Scope → ProtectedItemTree → Coded
of_object o s i = record { owner = Some o; head = own_head i; body = own_body i; kind = own_kind o i; front = s }

-- An operation of an object sees its components, a function as constants, and its own name behind them; an entry's name is visible by its declaration alone.
abbrev pub operation_front : Scope → List RecordComponent → ProtectedItemTree → Scope
operation_front s components (OperationBody d b) = subprogram_scope (operation_sees s components d) d
operation_front s components (EntryBody d barrier b) = components_scope s false components

abbrev pub of_operation : (object : ℕ) → Scope → List RecordComponent → ProtectedItemTree → Coded
of_operation o s components i = of_object o (operation_front s components i) i

-- the bodies of an object's operations with these components, where these names are visible before the first one
abbrev pub operations_of : (object : ℕ) → Scope → List RecordComponent → List ProtectedItemTree → List Coded
operations_of o s components [] = []
operations_of o s components (i ∷ is) = of_operation o s components i ∷ operations_of o (protected_item_scope s i) components is

abbrev pub components_or_none : Option (List RecordComponent) → List RecordComponent
components_or_none (Some cs) = cs
components_or_none None = []

-- the bodies of the operations of the object whose name has this number among those that are visible before its body
abbrev pub object_bodies : (object : ℕ) → Scope → (visible : Option ℕ) → List ProtectedItemTree → List Coded
object_bodies o s (Some n) items = operations_of o (object_body_scope s n) (components_or_none (components_at s n)) items
object_bodies o s None items = operations_of o s [] items

-- of the item at this place of the package: none of a declaration, one of a subprogram or a task, and one of each operation or entry
abbrev pub coded_at : ProgramTree → (place : ℕ) → BodyItemTree → List Coded
coded_at t place (OfItem d) = []
coded_at t place (SubprogramBody d b) = of_subprogram (front t (suc place)) d b ∷ []
coded_at t place (TaskBody name b) = of_task (front t (suc place)) name b ∷ []
coded_at t place (ProtectedBody name items end_name) =
    object_bodies (object_number (program_of t).scope name) (front t place) (number_of (front t place) name.name) items

-- of items that stand from this place on
abbrev pub coded_from : ProgramTree → (place : ℕ) → List BodyItemTree → List Coded
coded_from t place [] = []
coded_from t place (x ∷ rest) = coded_at t place x ++ coded_from t (suc place) rest

-- of all of the package, each at its number
abbrev pub bodies_of : ProgramTree → List Coded
bodies_of t = coded_from t 0 (declared_in t.package_)

-- a body of the text that has code of its own: of a subprogram or a task, or of an operation or entry of a protected object
pub record IsBodyOf (t : ProgramTree) (c : Coded) : Type 0 where
  pub place : ℕ
  pub item : BodyItemTree
  pub index : ℕ
  pub at : slice_get (declared_in t.package_) place ≡ Some item
  pub coded : slice_get (coded_at t place item) index ≡ Some c
