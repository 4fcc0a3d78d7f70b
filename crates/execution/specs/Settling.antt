-- What the kernel owes to the step of a task, and when it has settled that; nobody has to believe this.
use Rattle.std.specs.Prelude.{◌≡◌, ◌≢◌, ◌⊎◌, ℕ, ◌+◌, ◌<◌, ◌≤◌, List, length, Option, Some, None, Bool, true, false, drop, slice_get, slice_set, if◌then◌else◌}
use Rattle.base.specs.declared.limits.TheConstants.{FRAMES, INSTRUCTIONS}
use Rattle.kernel.specs.Calm.{IsRunner}
use Rattle.kernel.specs.Effects.{after, call_refusal, is_full}
use Rattle.kernel.specs.State as kernel
use Rattle.kernel.specs.State.{Kernel, put}
use Rattle.kernel.specs.Worlds.{Tasks, ending, is_handler_over, reached, solo_of}
use Rattle.image.specs.Frames.{TaskState, Words}
use Rattle.image.specs.Operations.{called, entry_of}
use Rattle.image.specs.Sections.{Sections}
use Rattle.image.specs.Steps as steps
use Rattle.image.specs.Steps.{act, behaviour}
use Rattle.image.specs.declared.subprograms.Subprogram.{Subprogram}
use Rattle.image_laws.specs.Room.{widest}
use Rattle.image_laws.specs.Whole.{IsWhole}
use Rattle.task_steps.specs.Acting.{effect_of, given_of, stepped_of}
use Rattle.task_steps.specs.declared.acts.Act.{Act}
use Rattle.task_steps.specs.declared.acts.Effect.{Effect}
use Rattle.task_steps.specs.declared.acts.Effect.TheVariants as acts
use Rattle.image.specs.Code.{initial_state}
use Rattle.tasking.specs.Held.{is_handler, kernel_of}
use Rattle.tasking.specs.Orderly.{IsTask}
use Rattle.execution.specs.Held.{HeldWorld, row_at, row_of, task_at, tasks_of}

-- the number of a handler is beyond those of the tasks
abbrev pub IsBeyond : Sections → Option ℕ → Type 0
IsBeyond i handler = (a : ℕ) → handler ≡ Some a → length i.tasks ≤ a

-- a task, or the handler that runs
abbrev pub IsHere : Sections → Option ℕ → ℕ → Type 0
IsHere i handler t = (t < length i.tasks) ⊎ (is_handler handler t ≡ true)

-- who runs has a row of its own
pub record RunsThere (i : Sections) (handler : Option ℕ) (t : ℕ) : Type 0 where
  pub beyond : IsBeyond i handler
  pub here : IsHere i handler t

-- the running task t has taken a step from a whole world, and this is what it asks of the kernel
pub record Owes (h : HeldWorld) (t : ℕ) (a : Act) : Type 0 where
  pub before : Tasks Words TaskState
  pub whole : IsWhole h.image (record { kernel = kernel_of h.tasking; rest = before })
  pub runs : IsRunner (kernel_of h.tasking) t
  pub did : act h.image h.schedule (kernel_of h.tasking) t (solo_of t before) ≡ stepped_of h.image a h.memory (tasks_of h t)
  pub others : tasks_of h ≡ put t (tasks_of h t) before.tasks

-- the task that took the step, which at the end of a handler holds what its next start needs
abbrev pub own_state : (h : HeldWorld) (t : ℕ) → Act → TaskState
own_state h t a = if is_handler_over (kernel_of h.tasking) t (effect_of h.image a.effect) then initial_state h.image t else tasks_of h t

-- the task that took the step, by the rows that the kernel's part of the step leaves
abbrev pub left_state : HeldWorld → List TaskState → (t : ℕ) → Act → TaskState
left_state h rows t a =
    if is_handler_over (kernel_of h.tasking) t (effect_of h.image a.effect) then initial_state h.image t else task_at h.image h.tasking.handler rows t

-- the kernel has done what the step asks, and the rows of the tasks that the end of an action reaches are as the step has them; whether a handler is over
-- is told
pub record KernelDoes (before after_it : HeldWorld) (t : ℕ) (a : Act) (is_over : Bool) (told : List kernel.Line) : Type 0 where
  pub rest : after_it ≡ record before { tasking = after_it.tasking; tasks = after_it.tasks }
  pub over : is_over ≡ is_handler_over (kernel_of before.tasking) t (effect_of before.image a.effect)
  pub kernel : record (kernel_of after_it.tasking) { lines = told } ≡ after t (effect_of before.image a.effect) (kernel_of before.tasking)
  pub size : length after_it.tasks ≡ length before.tasks
  pub tasks : (u : ℕ) → put t (left_state before after_it.tasks t a) (task_at before.image before.tasking.handler after_it.tasks) u
      ≡ reached (behaviour before.image before.schedule) t (ending (kernel_of before.tasking) t (effect_of before.image a.effect))
      (given_of before.memory.passed a.given) (put t (own_state before t a) (tasks_of before)) u

-- the kernel, and the tasks that the end of an action reaches, are as the step has them
pub record Settles (before after_it : HeldWorld) (t : ℕ) (a : Act) (told : List kernel.Line) : Type 0 where
  pub image : after_it.image ≡ before.image
  pub schedule : after_it.schedule ≡ before.schedule
  pub shared : after_it.memory.shared ≡ before.memory.shared
  pub kernel : record (kernel_of after_it.tasking) { lines = told } ≡ after t (effect_of before.image a.effect) (kernel_of before.tasking)
  pub tasks : tasks_of after_it
      ≡ reached (behaviour before.image before.schedule) t (ending (kernel_of before.tasking) t (effect_of before.image a.effect))
      (given_of before.memory.passed a.given) (put t (own_state before t a) (tasks_of before))

-- the handler, or task, of row t can run the entry body of object o for the queued call of the task of row u
pub record CanServe (i : Sections) (tasks : List TaskState) (t o u : ℕ) : Type 0 where
  pub n : ℕ
  pub s : Subprogram
  pub entry : entry_of (slice_get i.objects o) ≡ Some n
  pub is_called : called i n ≡ Some s
  pub task : row_of i t < length tasks
  pub caller : u < length i.tasks
  pub other : u ≢ t
  pub there : s.parameters ≤ length (row_at i tasks u).frame.stack
  pub fits : s.parameters ≤ s.locals
  pub room : s.locals ≤ widest i
  pub left : length (row_at i tasks t).callers < FRAMES

-- the words that a caller is given
abbrev pub words_given : steps.Given → ℕ
words_given (steps.Results words) = length words
words_given (steps.Raised x) = 0

-- task u can go on behind its entry call with what it is given
pub record CanReceive (i : Sections) (tasks : List TaskState) (u : ℕ) (g : Option steps.Given) : Type 0 where
  pub given : steps.Given
  pub is : g ≡ Some given
  pub caller : u < length i.tasks
  pub next : (row_at i tasks u).frame.place < INSTRUCTIONS
  pub room : length (row_at i tasks u).frame.locals + length (row_at i tasks u).frame.stack + words_given given ≤ widest i

-- a task without so many words of its operand stack
abbrev pub without : ℕ → TaskState → TaskState
without count u = record u { frame = record u.frame { stack = drop count u.frame.stack } }

abbrev pub served_tasks : Sections → List TaskState → (t o u : ℕ) → List TaskState
served_tasks i tasks t o u =
    slice_set (slice_set tasks u (steps.taken i o (row_at i tasks u))) (row_of i t) (steps.serving i o u (row_at i tasks u) (row_at i tasks t))

abbrev pub given_tasks : Sections → List TaskState → ℕ → Option steps.Given → List TaskState
given_tasks i tasks u None = tasks
given_tasks i tasks u (Some g) = slice_set tasks u (steps.receives g (row_at i tasks u))

-- the object that an effect speaks of is one of so many, and nothing refuses the effect; who may block is a task
abbrev pub HasPassed : ℕ → Kernel → ℕ → Effect → Type 0
HasPassed n k t (acts.Opens o) = (o < n) × (call_refusal k t o ≡ None)
HasPassed n k t (acts.Views o) = (o < n) × (call_refusal k t o ≡ None)
HasPassed n k t (acts.Queues o) = (o < n) × (is_full k o ≡ false) × IsTask k t
HasPassed n k t (acts.Delays until) = IsTask k t
HasPassed n k t acts.Finishes = IsTask k t
HasPassed n k t _ = Unit {0}
