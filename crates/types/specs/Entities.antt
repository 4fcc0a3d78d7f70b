-- What names stand for: types and subtypes, objects, subprograms, tasks, protected objects (RM 3, 6, 9).
use Rattle.std.specs.Prelude.{ℕ, Bool, List, map, Option}
use Rattle.types.specs.declared.entity.Subtype.{Subtype}
use Rattle.types.specs.declared.entity.Role.{Role}
use Rattle.types.specs.declared.entity.Value.{Value as Scalar}
use Rattle.types.specs.declared.entity.RecordComponent.{RecordComponent}
use Rattle.types.specs.declared.entity.FormalParameter.{FormalParameter}
use Rattle.types.specs.declared.entity.PredefinedOperation.{PredefinedOperation}
use Rattle.types.specs.declared.entity.Barrier.{Barrier}
use Rattle.types.specs.declared.entity.TypeForm as declared_form
use Rattle.types.specs.declared.entity.TypeForm.TheVariants as form
use Rattle.types.specs.declared.entity.Profile as declared_profile
use Rattle.types.specs.declared.entity.Operation as declared_operation
use Rattle.types.specs.declared.entity.ProtectedObject as declared_protected
use Rattle.types.specs.declared.entity.Entity as declared_entity
use Rattle.types.specs.declared.entity.Entity.TheVariants as entity

-- the form of a type (RM 3.2)
pub data TypeForm : Type 0 where
  Integers Booleans Times Spans : TypeForm
  -- the subtype of the index, the number of components, and their subtype (RM 3.6)
  Arrays : (index : Subtype) (length : ℕ) (element : Subtype) → TypeForm
  -- (RM 3.8)
  Records : List RecordComponent → TypeForm

-- what a call is checked against: formal parameters, and the result of a function (RM 6.1)
pub record Profile : Type 0 where
  pub formals : List FormalParameter
  pub result : Option Subtype

-- a procedure, function or entry of a protected object (RM 9.4)
pub record Operation : Type 0 where
  pub name : List ℕ
  pub is_entry : Bool
  pub profile : Profile

-- a protected object (RM 9.4): its number among the protected objects, its ceiling (RM D.3), and the barrier of its entry once the entry's body is known
pub record ProtectedObject : Type 0 where
  pub number : ℕ
  pub ceiling : ℕ
  pub operations : List Operation
  pub components : List RecordComponent
  pub barrier : Option Barrier

pub data Entity : Type 0 where
  -- a type with its first subtype, and a further subtype
  OfType : TypeForm → Subtype → Entity
  OfSubtype : Subtype → Entity
  Object : Role → Subtype → Entity
  -- a constant of the package, with its value where that is a scalar
  Constant : Subtype → Option Scalar → Entity
  -- True or False
  Literal : Bool → Entity
  Exception : Entity
  -- a subprogram; in the body of a protected object also its own operations
  Subprogram : Profile → Entity
  Entry : Profile → Entity
  Predefined : PredefinedOperation → Profile → Entity
  Put : Entity
  -- a task with its base priority (RM D.1)
  Task : (priority : ℕ) → Entity
  Protected : ProtectedObject → Entity
  -- the package, or main
  LibraryUnit : Entity
  -- what a declaration that breaks a rule declares: nothing is said of its uses
  Doubtful : Entity

-- ---- what the values in memory are

abbrev pub form_value : declared_form.TypeForm → TypeForm
form_value form.Integer = Integers
form_value form.Boolean = Booleans
form_value form.Time = Times
form_value form.TimeSpan = Spans
form_value (form.Array index length element) = Arrays index length element
form_value (form.Record components) = Records components

abbrev pub profile_value : declared_profile.Profile → Profile
profile_value p = record { formals = p.formals.items; result = p.result }

abbrev pub operation_value : declared_operation.Operation → Operation
operation_value o = record { name = o.name; is_entry = o.is_entry; profile = profile_value o.profile }

abbrev pub protected_value : declared_protected.ProtectedObject → ProtectedObject
protected_value p = record {
  number = p.number;
  ceiling = p.ceiling;
  operations = map operation_value p.operations;
  components = p.components.items;
  barrier = p.barrier;
}

abbrev pub entity_value : declared_entity.Entity → Entity
entity_value (entity.Type f s) = OfType (form_value f) s
entity_value (entity.Subtype s) = OfSubtype s
entity_value (entity.Object r s) = Object r s
entity_value (entity.Constant s v) = Constant s v
entity_value (entity.Literal b) = Literal b
entity_value entity.Exception = Exception
entity_value (entity.Subprogram p) = Subprogram (profile_value p)
entity_value (entity.Entry p) = Entry (profile_value p)
entity_value (entity.Predefined o p) = Predefined o (profile_value p)
entity_value entity.Put = Put
entity_value (entity.Task priority) = Task priority
entity_value (entity.Protected p) = Protected (protected_value p)
entity_value entity.Unit = LibraryUnit
entity_value entity.Doubtful = Doubtful
