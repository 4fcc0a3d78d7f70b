-- When a place of evaluation fits the names visible at a point of the text: it agrees with them, and statements find what they name (RM 5.1, 6.4, 9.5, 11.3).
use Rattle.std.specs.Prelude.{◌≡◌, ℕ, Bool, true, false, List, [], ◌∷◌, map, Option, Some, None, is_some, bytes_eq, position, slice_get, ◌&&◌, if◌then◌else◌, ⊤}
use Rattle.expr_soundness.specs.ada_tree.specs.ExpressionTree.{ExprTree}
use Rattle.expr_soundness.specs.types.specs.declared.entity.Subtype.{Subtype}
use Rattle.expr_soundness.specs.types.specs.declared.entity.FormalParameter.{FormalParameter}
use Rattle.expr_soundness.specs.types.specs.declared.entity.Role.{Role}
use Rattle.expr_soundness.specs.types.specs.declared.entity.Role.TheVariants as role
use Rattle.expr_soundness.specs.types.specs.Entities.{Entity, Operation, Profile, Subprogram, Entry, Put, Protected, ProtectedObject}
use Rattle.expr_soundness.specs.types.specs.Entities as entity
use Rattle.expr_soundness.specs.types.specs.Scopes.{Scope, number_of}
use Rattle.expr_soundness.specs.types.specs.Places.{Place, is_of}
use Rattle.expr_soundness.specs.type_rules.specs.SubtypeNames.{entity_at_or_none}
use Rattle.expr_soundness.specs.Agreeing.{Agrees}
use Rattle.expr_soundness.specs.meaning.specs.Programs.{Parameter, Procedure, Program, exception_number}
use Rattle.expr_soundness.specs.meaning.specs.Calls.{is_in, is_out, procedure_among, procedure_here}
use Rattle.step_soundness.specs.Objects.{subtype_in}

-- what a name stands for
abbrev pub entity_named : Scope → List ℕ → Option Entity
entity_named s name = entity_at_or_none s (number_of s name)

-- ---- procedures and entries

abbrev pub formal_of : Parameter → FormalParameter
formal_of f = record { mode = f.mode; subtype = f.subtype }

-- the numbers of the types of the parameters that are copied in, and of those that are copied back (RM 6.4.1)
abbrev pub taken_types : List Parameter → List ℕ
taken_types [] = []
taken_types (f ∷ fs) = if is_out f.mode then taken_types fs else f.subtype.type_number ∷ taken_types fs

abbrev pub result_types : List Parameter → List ℕ
result_types [] = []
result_types (f ∷ fs) = if is_in f.mode then result_types fs else f.subtype.type_number ∷ result_types fs

-- the entry of the object: it has at most one (RM D.7, Max_Protected_Entries)
abbrev pub entry_of : List Procedure → ℕ → Option Procedure
entry_of [] o = None
entry_of (q ∷ rest) o = if is_of q.object (Some o) && is_some q.barrier then Some q else entry_of rest o

-- a procedure with the formals of the profile
pub record IsProcedure (found : Option Procedure) (profile : Profile) : Type 0 where
  pub procedure : Procedure
  pub is : found ≡ Some procedure
  pub formals : map formal_of procedure.parameters ≡ profile.formals
  pub barrier : procedure.barrier ≡ None

-- an entry with the formals of the profile, the only one of its object
pub record IsEntry (program : Program) (found : Option Procedure) (profile : Profile) : Type 0 where
  pub procedure : Procedure
  pub is : found ≡ Some procedure
  pub formals : map formal_of procedure.parameters ≡ profile.formals
  pub condition : ExprTree
  pub barrier : procedure.barrier ≡ Some condition
  pub object : ℕ
  pub owner : procedure.object ≡ Some object
  pub only : entry_of program.procedures object ≡ Some procedure

-- of functions nothing is said, since no statement calls them
abbrev pub IsCalled : Option Procedure → Profile → Option Subtype → Type 0
IsCalled found profile None = IsProcedure found profile
IsCalled found profile (Some result) = ⊤

abbrev pub IsOperation : Program → Option Procedure → (is_entry : Bool) → Profile → Type 0
IsOperation program found true profile = IsEntry program found profile
IsOperation program found false profile = IsCalled found profile profile.result

-- the operations behind the name of the protected object with this number
abbrev pub AreOperations : Program → (object : ℕ) → List Operation → Type 0
AreOperations program object operations = (name : List ℕ) (k : ℕ) (o : Operation)
    → position (λ x. bytes_eq x.name name) operations ≡ Some k → slice_get operations k ≡ Some o
    → IsOperation program (procedure_among program.procedures (Some object) name) o.is_entry o.profile

pub record IsProtectedObject (program : Program) (name : List ℕ) (o : ProtectedObject) : Type 0 where
  pub object : ProtectedObject
  pub is : entity_named program.scope name ≡ Some (Protected object)
  pub operations : AreOperations program object.number o.operations

-- `Put` of Control_IO, which no procedure hides
pub record IsPut (program : Program) (within : Option ℕ) (name : List ℕ) : Type 0 where
  pub is : entity_named program.scope name ≡ Some Put
  pub free : procedure_here program within name ≡ None

-- ---- what statements name, in a body of the protected object `within`, if it belongs to one

abbrev pub IsFound : Program → (within : Option ℕ) → List ℕ → Entity → Type 0
IsFound program within name (Subprogram p) = IsCalled (procedure_here program within name) p p.result
IsFound program within name (Entry p) = IsEntry program (procedure_here program within name) p
IsFound program within name (Protected o) = IsProtectedObject program name o
IsFound program within name Put = IsPut program within name
IsFound program within name entity.Exception = (x : ℕ) × (exception_number program name ≡ Some x)
IsFound program within name e = ⊤

-- a formal parameter that is copied back
abbrev pub is_result : Role → Bool
is_result role.Out = true
is_result role.InOut = true
is_result r = false

pub record FitsScope (program : Program) (s : Scope) (p : Place) : Type 0 where
  pub agrees : Agrees s p
  pub finds : (name : List ℕ) (e : Entity) → entity_named s name ≡ Some e → IsFound program p.within name e
  -- the parameters that are copied back are objects of the running activation
  pub results : (name : List ℕ) (r : Role) (t : Subtype) → entity_named s name ≡ Some (entity.Object r t) → is_result r ≡ true
      → subtype_in p.locals name ≡ Some t

-- whatever fits the one scope fits the other: so where names go out of sight
abbrev pub Narrows : Program → Scope → Scope → Type 0
Narrows program s later = (p : Place) → FitsScope program s p → FitsScope program later p
