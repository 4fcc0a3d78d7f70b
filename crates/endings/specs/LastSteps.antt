-- The last steps that the actors of a run took, and how a run is left.
use Rattle.std.specs.Prelude.{◌≡◌, ℕ, zero, suc, ◌/◌, ℤ, List, [], ◌∷◌, ◌++◌, length, Option, Some, None, slice_get, slice_set}
use Rattle.base.specs.declared.schedule.ScheduleLine.{ScheduleLine}
use Rattle.kernel.specs.State.{TaskPlace, IsQueued}
use Rattle.image.specs.Code.{code}
use Rattle.image.specs.Sections.{Sections}
use Rattle.execution.specs.Ahead.{next_address}
use Rattle.endings.specs.declared.sources.TheConstants.{ACTORS}
use Rattle.endings.specs.declared.last_steps.LastStep.{LastStep}
use Rattle.endings.specs.declared.world_at_end.LastWorld.{LastWorld}
use Rattle.endings.specs.declared.world_at_end.Running.{Running}
use Rattle.endings.specs.declared.world_at_end.Waiting.{Waiting}

-- for each actor, by its number, the last step that it took, if it took one
abbrev pub LastSteps : Type 0
LastSteps = List (Option LastStep)

abbrev pub no_steps : ℕ → LastSteps
no_steps zero = []
no_steps (suc n) = no_steps n ++ None ∷ []

abbrev pub step_of : Option (Option LastStep) → Option LastStep
step_of (Some step) = step
step_of None = None

abbrev pub last_step : LastSteps → ℕ → Option LastStep
last_step steps t = step_of (slice_get steps t)

-- with a step at this time of the actor that runs, where one does, by the instruction at this address
abbrev pub with_step : LastSteps → ℤ → (running address : Option ℕ) → LastSteps
with_step steps now (Some t) (Some a) = slice_set steps t (Some (record { time = now; address = a }))
with_step steps now running address = steps

-- after so many steps of an image's code
abbrev pub last_steps : Sections → List ScheduleLine → ℕ → LastSteps
last_steps i schedule zero = no_steps ACTORS
last_steps i schedule (suc n) =
    let w = code i schedule n in
    with_step (last_steps i schedule n) w.kernel.now w.kernel.running (next_address w)

-- a task that waits in the queue of an object's entry (RM 9.5.3), since its last step, by which it called the entry
abbrev pub waiting_if : ℕ → TaskPlace → Option LastStep → List Waiting
waiting_if t (IsQueued o) (Some step) = record { task = t; object = o; call = step } ∷ []
waiting_if t place step = []

-- the tasks that wait, of `count` tasks from a number on
abbrev pub waiting_from : (ℕ → TaskPlace) → LastSteps → (first count : ℕ) → List Waiting
waiting_from place steps first zero = []
waiting_from place steps first (suc n) = waiting_if first (place first) (last_step steps first) ++ waiting_from place steps (suc first) n

-- who runs, and the instruction of the next step
abbrev pub running_by : (running address : Option ℕ) → Option Running
running_by (Some t) (Some a) = Some (record { actor = t; address = a })
running_by running address = None

-- How a run of an image is left after so many steps, or by its outcome.
pub record IsLastWorld (i : Sections) (schedule : List ScheduleLine) (n : ℕ) (last : LastWorld) : Type 0 where
  pub running : last.running ≡ running_by (code i schedule n).kernel.running (next_address (code i schedule n))
  pub waiting : last.waiting.items ≡ waiting_from (code i schedule n).kernel.place (last_steps i schedule n) 0 (length i.tasks)
  pub time : last.time ≡ (code i schedule n).kernel.now
  pub middle : last.middle ≡ (code i schedule (n / 2)).kernel.now
