-- When the values of the store and of tasks lie in their subtypes, part by part, and the statement that steps keep it (RM 3.2, 5.2, 6.4.1).
use Rattle.std.specs.Prelude.{◌≡◌, ℕ, true, List, [], ◌∷◌, map, Option, Some, None, ⊤}
use Rattle.expr_soundness.specs.base.specs.declared.schedule.ScheduleLine.{ScheduleLine}
use Rattle.expr_soundness.specs.kernel.specs.State.{Kernel}
use Rattle.expr_soundness.specs.kernel.specs.Worlds.{Solo}
use Rattle.expr_soundness.specs.ada_tree.specs.declared.expression.Identifier.{Identifier}
use Rattle.expr_soundness.specs.types.specs.declared.entity.Subtype.{Subtype}
use Rattle.expr_soundness.specs.types.specs.Scopes.{Scope, form_at}
use Rattle.expr_soundness.specs.types.specs.Shapes.{initial}
use Rattle.expr_soundness.specs.types.specs.Values.{Value}
use Rattle.expr_soundness.specs.types.specs.Places.{Function, function_of}
use Rattle.expr_soundness.specs.CompositesLaw.{is_simple}
use Rattle.expr_soundness.specs.Lying.{ObjectsLie, lies, lies_inside}
use Rattle.expr_soundness.specs.meaning.specs.Programs.{Parameter, Procedure, Program, subtype_named}
use Rattle.expr_soundness.specs.meaning.specs.Works.{Activation, Completion, Completed, Pending, GivenToCaller, Results, Item, DeclaresParameter, EndsAction, EndsServed, Queued, Store, Target, TaskWork, Work, Goes, Copies, Raising}
use Rattle.expr_soundness.specs.meaning.specs.Calls.{bound, procedure_among}
use Rattle.expr_soundness.specs.meaning.specs.SourceSteps.{SourceStepped, here_of, items_of, work_step}
use Rattle.step_soundness.specs.Fitting.{entry_of, result_types}
use Rattle.step_soundness.specs.Opened.{ForCaller, Opened, opened_in}
use Rattle.step_soundness.specs.Holding.{IsSoundStore, IsSoundTask}
use Rattle.step_soundness.specs.Laws.{Premises}

-- ---- objects

-- an object of the subtype that is given no value begins in it (RM 3.3.1)
abbrev pub BeginsIn : Scope → Subtype → Type 0
BeginsIn s t = lies s t (initial s t) ≡ true

abbrev pub ParametersBegin : Scope → List Parameter → Type 0
ParametersBegin s [] = ⊤
ParametersBegin s (f ∷ fs) = (BeginsIn s f.subtype) × (ParametersBegin s fs)

-- ---- values on their way: what is checked where it is stored has its parts in their subtypes, as the type with this number has them

abbrev pub PartsLie : Scope → List ℕ → List Value → Type 0
PartsLie s (n ∷ ns) (v ∷ vs) = (lies_inside s n v ≡ true) × (PartsLie s ns vs)
PartsLie s ns vs = ⊤

abbrev pub target_type : Target → ℕ
target_type x = x.subtype.type_number

abbrev pub CompletionLies : Scope → Completion → Type 0
CompletionLies s (Completed vs xs) = PartsLie s (map target_type xs) vs
CompletionLies s (Pending x) = ⊤

-- ---- tasks

-- the values that an item holds: results that are still to be copied back, and the parameters of a call that waits
abbrev pub ItemLies : Scope → Item → Type 0
ItemLies s (DeclaresParameter f) = BeginsIn s f.subtype
ItemLies s (EndsAction o completion) = CompletionLies s completion
ItemLies s (EndsServed o names completion) = CompletionLies s completion
ItemLies s (Queued q vs xs) = (ObjectsLie s (bound q.parameters vs)) × (ParametersBegin s q.parameters)
ItemLies s i = ⊤

abbrev pub ItemsLie : Scope → List Item → Type 0
ItemsLie s [] = ⊤
ItemsLie s (i ∷ items) = (ItemLies s i) × (ItemsLie s items)

abbrev pub WorkLies : Scope → Work → Type 0
WorkLies s (Goes items) = ItemsLie s items
WorkLies s (Copies vs xs items) = (PartsLie s (map target_type xs) vs) × (ItemsLie s items)
WorkLies s (Raising x items) = ItemsLie s items

-- the objects of each activation that waits
abbrev pub CallersLie : Scope → List Activation → Type 0
CallersLie s [] = ⊤
CallersLie s (a ∷ callers) = (ObjectsLie s a.locals) × (CallersLie s callers)

-- every object of the task's activations, and what is on its way
pub record TaskLies (s : Scope) (t : TaskWork) : Type 0 where
  pub work : WorkLies s t.work
  pub own : ObjectsLie s t.own.locals
  pub callers : CallersLie s t.callers

-- every variable of the package, and every component of a protected object
pub record StoreLies (s : Scope) (m : Store) : Type 0 where
  pub variables : ObjectsLie s m.variables
  pub components : (o : ℕ) → ObjectsLie s (m.components o)

-- ---- programs

-- what steps stand on beside the names: objects that are given no value begin in their subtypes, and functions give no composite values
pub record IsBegun (program : Program) : Type 0 where
  pub named : (name : Identifier) → BeginsIn program.scope (subtype_named program.scope name)
  pub procedures : (owner : Option ℕ) (name : List ℕ) (q : Procedure) → procedure_among program.procedures owner name ≡ Some q
      → ParametersBegin program.scope q.parameters
  pub entries : (o : ℕ) (q : Procedure) → entry_of program.procedures o ≡ Some q → ParametersBegin program.scope q.parameters
  pub results : (owner : Option ℕ) (name : List ℕ) (f : Function) → function_of program.functions owner name ≡ Some f
      → is_simple (form_at program.scope f.result.type_number) ≡ true

-- ---- steps

-- what a served caller is given, for the results of the object's entry
abbrev pub GivenLies : Program → List Opened → Option GivenToCaller → Type 0
GivenLies program (ForCaller o ∷ outer) (Some (Results vs)) = (q : Procedure) × (entry_of program.procedures o ≡ Some q)
    × PartsLie program.scope (result_types q.parameters) vs
GivenLies program opened given = ⊤

pub record StepLies (program : Program) (opened : List Opened) (x : SourceStepped) : Type 0 where
  pub store : StoreLies program.scope x.solo.memory
  pub task : TaskLies program.scope x.solo.task
  pub given : GivenLies program opened x.given

-- Where all values of the store and of a task lie in their subtypes, they do so after each step of the task.
abbrev pub StepsKeepSubtypes : Type 0
StepsKeepSubtypes = (program : Program) (schedule : List ScheduleLine) (k : Kernel) (t : ℕ) (s : Solo Store TaskWork) → Premises program → IsBegun program
    → IsSoundStore program s.memory
    → IsSoundTask program s.memory None s.task
    → StoreLies program.scope s.memory → TaskLies program.scope s.task
    → StepLies program (opened_in (items_of s.task.work)) (work_step (here_of program schedule k t s) s.task.work)
