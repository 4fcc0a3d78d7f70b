-- What legality says of the bodies of an accepted program, as statements; each is the contract of a public function.
use Rattle.std.specs.Prelude.{◌≡◌, ℕ, Bool, List, [], take, Option, Some, None, slice_get}
use Rattle.expr_soundness.specs.ada_tree.specs.declared.expression.Identifier.{Identifier}
use Rattle.expr_soundness.specs.ada_tree.specs.StatementTree.{SubprogramTree}
use Rattle.expr_soundness.specs.ada_tree.specs.ProgramTree.{BodyTree, ProgramTree, ProtectedBody, ProtectedItemTree, OperationBody}
use Rattle.types.specs.Entities.{Protected, ProtectedObject}
use Rattle.types.specs.Scopes.{Scope, entity_at, number_of}
use Rattle.types.specs.Places.{Place}
use Rattle.expr_soundness.specs.type_rules.specs.ProfileRules.{subprogram_scope}
use Rattle.declaration_rules.specs.BodyNames.{components_scope, object_body_scope}
use Rattle.unit_rules.specs.ProtectedBodyRules.{operation_sees, protected_items_scope}
use Rattle.legality.specs.ProgramRules.{IsLegal}
use Rattle.ravenscar.specs.ProgramRules.{IsRestricted}
use Rattle.expr_soundness.specs.SoundScopes.{SoundScope}
use Rattle.expr_soundness.specs.meaning.specs.Programs.{Attached, Procedure, Program, handler_at, program_of}
use Rattle.expr_soundness.specs.meaning.specs.Works.{Store}
use Rattle.expr_soundness.specs.meaning.specs.Calls.{procedure_among}
use Rattle.expr_soundness.specs.meaning.specs.Source.{initial_work}
use Rattle.step_soundness.specs.Objects.{AreSoundObjects, first_store}
use Rattle.step_soundness.specs.Fitting.{FitsScope, entry_of}
use Rattle.step_soundness.specs.Holding.{IsSoundProcedure, IsSoundTask, SameObjects, inside}
use Rattle.step_soundness.specs.Laws.{Premises}
use Rattle.step_soundness.specs.Starting.{IsSoundHandler}
use Rattle.program_soundness.specs.Fronts.{declared_in, front}

-- ---- the names of an accepted program

-- in the body of a protected object, in front of which these names are visible: the scope at each operation, with the components, is sound, and so is that
-- of the operation's own body
pub record IsKnownObject (s : Scope) (number : ℕ) (o : ProtectedObject) (items : List ProtectedItemTree) : Type 0 where
  pub seen : (place : ℕ) (i : ProtectedItemTree) → slice_get items place ≡ Some i → (is_function : Bool)
      → SoundScope (components_scope (protected_items_scope (object_body_scope s number) (take place items)) is_function o.components)
  pub own : (place : ℕ) (d : SubprogramTree) (b : BodyTree) → slice_get items place ≡ Some (OperationBody d b)
      → SoundScope (subprogram_scope (operation_sees (protected_items_scope (object_body_scope s number) (take place items)) o.components d) d)

-- the scopes in front of each declaration and body are sound, and so are those in the bodies of protected objects
pub record BodyNamesAreSound (t : ProgramTree) : Type 0 where
  pub fronts : (place : ℕ) → SoundScope (front t place)
  pub objects : (place : ℕ) (name : Identifier) (items : List ProtectedItemTree) (end_name : Identifier) (number : ℕ) (o : ProtectedObject)
      → slice_get (declared_in t.package_) place ≡ Some (ProtectedBody name items end_name)
      → number_of (front t place) name.name ≡ Some number
      → entity_at (front t place) number ≡ Some (Protected o)
      → IsKnownObject (front t place) number o items

abbrev pub NamesAreKnown : Type 0
NamesAreKnown = (t : ProgramTree) → IsLegal t → IsRestricted t → BodyNamesAreSound t

-- what the steps of a program stand on
abbrev pub PremisesHold : Type 0
PremisesHold = (t : ProgramTree) → IsLegal t → Premises (program_of t)

-- ---- the store

-- a store with the objects of the first, each with a value of its type
pub record IsSoundMemory (program : Program) (m : Store) : Type 0 where
  pub variables : AreSoundObjects program.scope m.variables
  pub components : (o : ℕ) → AreSoundObjects program.scope (m.components o)
  pub same : SameObjects (first_store program) m

-- ---- the bodies

-- A place of the package's bodies, without objects of its own, fits the names in front of each declaration and body.
abbrev pub FrontsFit : Type 0
FrontsFit = (t : ProgramTree) (m : Store) → IsLegal t → IsRestricted t → IsSoundMemory (program_of t) m → (place : ℕ) (p : Place)
    → FitsScope (program_of t) (front t place) (inside (program_of t) m (record { within = None; locals = [] }) p)

-- bodies of procedures and entries can be begun with each values of their parameters
pub record HasSoundBodies (program : Program) (m : Store) : Type 0 where
  pub procedures : (owner : Option ℕ) (name : List ℕ) (q : Procedure) → procedure_among program.procedures owner name ≡ Some q → IsSoundProcedure program m q
  pub entries : (o : ℕ) (q : Procedure) → entry_of program.procedures o ≡ Some q → IsSoundProcedure program m q

abbrev pub ProceduresAreSound : Type 0
ProceduresAreSound = (t : ProgramTree) (m : Store) → IsLegal t → IsRestricted t → IsSoundMemory (program_of t) m → HasSoundBodies (program_of t) m

-- The handlers of channels are procedures without parameters, of objects with the highest ceiling (RM C.3.1).
abbrev pub HandlersAreSound : Type 0
HandlersAreSound = (t : ProgramTree) (m : Store) → IsLegal t → IsRestricted t → IsSoundMemory (program_of t) m
    → (channel : ℕ) (a : Attached) → handler_at channel (program_of t).handlers ≡ Some a → IsSoundHandler (program_of t) a

-- Each task begins with work that breaks no rule, and so do main and handlers; behind them there is none (RM 9.2, 10.2, C.3.1).
abbrev pub WorksAreSound : Type 0
WorksAreSound = (t : ProgramTree) (m : Store) → IsLegal t → IsRestricted t → IsSoundMemory (program_of t) m
    → (u : ℕ) → IsSoundTask (program_of t) m None (initial_work (program_of t) u)
