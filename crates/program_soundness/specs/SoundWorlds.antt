-- What holds between the steps of a run of an accepted program: of the kernel, of the store and of every task.
use Rattle.std.specs.Prelude.{◌≡◌, ◌<◌, ℕ, false, List, [], ◌∷◌, Option, Some, None, ⊤}
use Rattle.kernel.specs.State.{Action, Writes, Interrupt, Outcome, Ended, WaitsForever, ImageFault, Unhandled, TaskPlace, IsRunning, IsReady, IsAsleep, IsFinished, IsQueued, IsServed, actor, is_task}
use Rattle.kernel.specs.Invariant.{Kept}
use Rattle.expr_soundness.specs.meaning.specs.Programs.{Program, program_partition}
use Rattle.expr_soundness.specs.meaning.specs.Works.{TaskWork}
use Rattle.expr_soundness.specs.meaning.specs.Calls.{is_open}
use Rattle.expr_soundness.specs.meaning.specs.SourceSteps.{items_of}
use Rattle.expr_soundness.specs.meaning.specs.Source.{SourceWorld, initial_work}
use Rattle.step_soundness.specs.Opened.{opened_in}
use Rattle.step_soundness.specs.Holding.{IsSoundStore, IsSoundTask}
use Rattle.step_soundness.specs.Laws.{Matches}

-- the object in whose entry call the task waits, in the queue or while its body is run by another task (RM 9.5.3)
abbrev pub awaited : TaskPlace → Option ℕ
awaited IsRunning = None
awaited IsReady = None
awaited IsAsleep = None
awaited IsFinished = None
awaited (IsQueued o) = Some o
awaited (IsServed o) = Some o

-- The run goes on, or has come to an end that has a meaning: the exceptions of a program have numbers from 1 on, and image faults are of images alone.
abbrev pub HasMeaning : Option Outcome → Type 0
HasMeaning None = ⊤
HasMeaning (Some Ended) = ⊤
HasMeaning (Some WaitsForever) = ⊤
HasMeaning (Some ImageFault) = ⊥
HasMeaning (Some (Unhandled x u)) = 0 < x

-- a handler that has not begun has no action open
abbrev pub IsIdle : Program → ℕ → List Action → Type 0
IsIdle program u actions = (is_task (program_partition program) u ≡ false) × (actions ≡ [])

-- the kernel's open actions are those that the items will end; a handler that has not begun holds what its start needs
pub record OpensItsActions (program : Program) (u : ℕ) (actions : List Action) (t : TaskWork) : Type 0 where
  pub matches : (IsIdle program u actions → ⊥) → Matches actions (opened_in (items_of t.work))
  pub idle : IsIdle program u actions → t ≡ initial_work program u

-- the handler of each pending interrupt will end the action that is opened for it
abbrev pub HandlersOpen : Program → List Interrupt → Type 0
HandlersOpen program [] = ⊤
HandlersOpen program (i ∷ is) =
    Matches (Writes i.object ∷ []) (opened_in (items_of (initial_work program (actor (program_partition program) i.channel)).work)) × HandlersOpen program is

pub record IsSoundWorld (program : Program) (w : SourceWorld) : Type 0 where
  -- the kernel's invariant, with the barriers that the store tells
  pub kernel : Kept (is_open program w.rest.memory) w.kernel
  pub partition : w.kernel.partition ≡ program_partition program
  pub store : IsSoundStore program w.rest.memory
  pub tasks : (u : ℕ) → IsSoundTask program w.rest.memory (awaited (w.kernel.place u)) (w.rest.tasks u)
  pub linked : (u : ℕ) → OpensItsActions program u (w.kernel.actions u) (w.rest.tasks u)
  pub handled : HandlersOpen program w.kernel.pending
  pub outcome : HasMeaning w.kernel.outcome
