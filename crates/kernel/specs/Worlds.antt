-- Worlds over the kernel, generic in what is kept beside it; their steps and runs.
use Rattle.std.specs.Prelude.{ℕ, zero, suc, Bool, false, Option, Some, None, if◌then◌else◌}
use Rattle.kernel.specs.State.{Kernel, Outcome, put}
use Rattle.kernel.specs.Effects.{Effect, Ends, Ending, Closes, TakesOver, HandsBack, ending_of, is_over, after}

pub record World (D : Type 0) : Type 0 where
  pub kernel : Kernel
  pub rest : D

-- what a step of the running task does
pub record Did (D : Type 0) : Type 0 where
  pub effect : Effect
  pub rest : D

abbrev pub Local : Type 0 → Type 0
Local D = Kernel → ℕ → D → Did D

abbrev pub step_of : {D : Type 0} → Local D → Kernel → D → Option Outcome → Option ℕ → World D
step_of f k d (Some o) running = record { kernel = k; rest = d }
step_of f k d None None = record { kernel = k; rest = d }
step_of f k d None (Some t) = record { kernel = after t (f k t d).effect k; rest = (f k t d).rest }

-- one step is the running task's, and what the kernel makes of it; a world with an outcome does not change
abbrev pub step : {D : Type 0} → Local D → World D → World D
step f w = step_of f w.kernel w.rest w.kernel.outcome w.kernel.running

abbrev pub run : {D : Type 0} → Local D → ℕ → World D → World D
run f zero w = w
run f (suc n) w = run f n (step f w)

-- the memory that all tasks share, and the state of each task
pub record Tasks (M T : Type 0) : Type 0 where
  pub memory : M
  pub tasks : ℕ → T

-- the memory that all tasks share, and the state of one task
pub record Solo (M T : Type 0) : Type 0 where
  pub memory : M
  pub task : T

-- what a task's own step does; `given` is what the caller that it has served gets, results or an exception
pub record Act (M T G : Type 0) : Type 0 where
  pub effect : Effect
  pub solo : Solo M T
  pub given : Option G

-- how tasks of one side behave: the step of a task by itself, and what the end of an action makes of two tasks
pub record Behaviour (M T G : Type 0) : Type 0 where
  pub act : Kernel → ℕ → Solo M T → Act M T G
  -- the queued caller once its call of the object was taken out
  pub taken : (object : ℕ) → T → T
  -- the task that runs the entry body of the object for the caller of this number, from the caller's state and its own
  pub serving : (object caller : ℕ) → T → T → T
  -- the caller that was served, with what it is given
  pub receives : G → T → T

-- what an effect comes to in other tasks: only the end of an action reaches them
abbrev pub ending : Kernel → ℕ → Effect → Ending
ending k t (Ends is_open) = ending_of is_open (k.actions t) k.queued
ending k t e = Closes

abbrev pub reached : {M T G : Type 0} → Behaviour M T G → ℕ → Ending → Option G → (ℕ → T) → ℕ → T
reached b t Closes g tasks = tasks
reached b t (TakesOver o u) g tasks = put u (b.taken o (tasks u)) (put t (b.serving o u (tasks u) (tasks t)) tasks)
reached b t (HandsBack u) None tasks = tasks
reached b t (HandsBack u) (Some g) tasks = put u (b.receives g (tasks u)) tasks

-- whether the step ends a handler
abbrev pub is_handler_over : Kernel → ℕ → Effect → Bool
is_handler_over k t (Ends is_open) = is_over k.partition t (k.actions t) (ending_of is_open (k.actions t) k.queued)
is_handler_over k t e = false

-- what an actor holds is at its end what its next start needs, a pending exception being dropped: so the start of a handler changes the kernel alone
abbrev pub restarted : {M T G : Type 0} → T → Kernel → ℕ → Act M T G → Act M T G
restarted start k t a =
    record { effect = a.effect; solo = record { memory = a.solo.memory; task = if is_handler_over k t a.effect then start else a.solo.task }; given = a.given }

abbrev pub solo_of : {M T : Type 0} → ℕ → Tasks M T → Solo M T
solo_of t d = record { memory = d.memory; task = d.tasks t }

abbrev pub put_back : {M T : Type 0} → ℕ → Tasks M T → Solo M T → Tasks M T
put_back t d s = record { memory = s.memory; tasks = put t s.task d.tasks }

-- the step of one task as a step of all
abbrev pub among : {M T G : Type 0} → Behaviour M T G → Local (Tasks M T)
among b k t d =
    let a = b.act k t (solo_of t d) in
    let own = put_back t d a.solo in
    record { effect = a.effect; rest = record { memory = own.memory; tasks = reached b t (ending k t a.effect) a.given own.tasks } }
