-- What the steps of an accepted program stand on, and the statement that none of them is without meaning.
use Rattle.std.specs.Prelude.{◌≡◌, ℕ, List, [], ◌∷◌, Option, Some, None}
use Rattle.expr_soundness.specs.base.specs.declared.schedule.ScheduleLine.{ScheduleLine}
use Rattle.expr_soundness.specs.kernel.specs.State.{Action, Kernel, Serves, Writes}
use Rattle.expr_soundness.specs.kernel.specs.Invariant.{IsBarrierHeld, Passed}
use Rattle.expr_soundness.specs.kernel.specs.Worlds.{Solo}
use Rattle.expr_soundness.specs.types.specs.Laws.{InitialValuesHaveShape}
use Rattle.expr_soundness.specs.declaration_rules.specs.Laws.{NamesAreAdded}
use Rattle.expr_soundness.specs.SoundScopes.{SoundScope}
use Rattle.expr_soundness.specs.Laws.{AgreementIsKept, CallsAreTyped}
use Rattle.expr_soundness.specs.Variables.{TargetsAreVariables}
use Rattle.expr_soundness.specs.meaning.specs.Programs.{Program}
use Rattle.expr_soundness.specs.meaning.specs.Works.{GivenToCaller, Store, TaskWork}
use Rattle.expr_soundness.specs.meaning.specs.Calls.{is_open}
use Rattle.expr_soundness.specs.meaning.specs.SourceSteps.{Here, SourceStepped, here_of, items_of, received, serves, work_step}
use Rattle.step_soundness.specs.Opened.{ForCall, ForCaller, IsHeld, Opened, opened_in}
use Rattle.step_soundness.specs.Holding.{IsGiven, IsSoundServer, IsSoundStep, IsSoundStore, IsSoundTask, KeepsStore}

-- ---- the whole

-- the laws of values, names and targets, and that the names of the package are known
pub record Premises (program : Program) : Type 0 where
  pub typed : CallsAreTyped
  pub kept : AgreementIsKept
  pub added : NamesAreAdded
  pub targets : TargetsAreVariables
  pub initial : InitialValuesHaveShape
  pub sound : SoundScope program.scope

-- ---- what a step owes to the kernel

-- the kernel's open actions of a task are those that its items tell
abbrev pub Matches : List Action → List Opened → Type 0
Matches [] [] = Unit {0}
Matches (Writes o ∷ actions) (ForCall p ∷ opened) = (o ≡ p) × Matches actions opened
Matches (Serves o u ∷ actions) (ForCaller p ∷ opened) = (o ≡ p) × Matches actions opened
Matches actions opened = ⊥

-- a barrier tells the same while the components of its object do (RM D.7, Simple_Barriers)
abbrev pub BarriersAreOwn : Program → Type 0
BarriersAreOwn program = (o : ℕ) (before after : Store) → after.components o ≡ before.components o → is_open program after o ≡ is_open program before o

-- The refusals before the effect were passed, and barriers change only under an action that may write their object: what the kernel's invariant asks of
-- every step.
abbrev pub EffectsPass : Type 0
EffectsPass = (h : Here) (opened : List Opened) (x : SourceStepped) → BarriersAreOwn h.program → Matches (h.kernel.actions h.task) opened
    → IsHeld h.own.within opened → IsSoundStep h opened x
    → IsBarrierHeld (is_open h.program h.memory) (is_open h.program x.solo.memory) h.kernel h.task
    × Passed (is_open h.program x.solo.memory) h.kernel h.task x.effect

-- ---- tasks

-- What holds of a task goes on holding while another one takes a step.
abbrev pub OthersStaySound : Type 0
OthersStaySound = (program : Program) (within waits : Option ℕ) (before after : Store) (t : TaskWork) → KeepsStore program within before after
    → IsSoundTask program before waits t
    → IsSoundTask program after waits t

-- What holds of a task with the objects of one store holds with those of each other one that is sound: it speaks of types, not of values.
abbrev pub StoresAreAlike : Type 0
StoresAreAlike = (program : Program) (waits : Option ℕ) (one other : Store) (t : TaskWork) → IsSoundStore program one → IsSoundStore program other
    → IsSoundTask program one waits t
    → IsSoundTask program other waits t

-- A task that has ended its action may run the entry body for the queued caller (RM 9.5.3).
abbrev pub ServersAreSound : Type 0
ServersAreSound = (program : Program) (m : Store) (o : ℕ) (caller t : TaskWork) → IsSoundStore program m → IsSoundTask program m (Some o) caller
    → IsSoundServer program m t
    → IsSoundTask program m None (serves o caller.work t)

-- A caller that was served goes on with its results, or raises the exception.
abbrev pub CallersGoOn : Type 0
CallersGoOn = (program : Program) (m : Store) (o : ℕ) (caller : TaskWork) (g : GivenToCaller) → IsSoundTask program m (Some o) caller → IsGiven program o g
    → IsSoundTask program m None (record caller { work = received g caller.work })

-- A task that does not wait in an entry call takes a step that has a meaning, and all holds after it.
abbrev pub StepsAreSound : Type 0
StepsAreSound = (program : Program) (schedule : List ScheduleLine) (k : Kernel) (t : ℕ) (s : Solo Store TaskWork) → Premises program
    → IsSoundStore program s.memory
    → IsSoundTask program s.memory None s.task
    → IsSoundStep (here_of program schedule k t s) (opened_in (items_of s.task.work)) (work_step (here_of program schedule k t s) s.task.work)
