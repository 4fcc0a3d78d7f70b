-- From where the exceptions of a run came.
use Rattle.std.specs.Prelude.{ℕ, zero, suc, ◌||◌, Bool, true, false, List, [], ◌∷◌, ◌++◌, Option, Some, None, if◌then◌else◌, nat_eq, slice_get}
use Rattle.base.specs.declared.schedule.ScheduleLine.{ScheduleLine}
use Rattle.kernel.specs.State.{TaskPlace, IsRunning, IsReady, IsServed}
use Rattle.image.specs.Code.{code}
use Rattle.image.specs.Sections.{Sections}
use Rattle.execution.specs.Ahead.{next_raising}
use Rattle.task_steps.specs.declared.foreseeing.Raising.{Raising}
use Rattle.endings.specs.declared.sources.TheConstants.{ACTORS}

-- for each actor, by its number, the instruction from which the last exception came that it had, if it had one
abbrev pub Froms : Type 0
Froms = List (Option ℕ)

abbrev pub no_froms : ℕ → Froms
no_froms zero = []
no_froms (suc n) = no_froms n ++ None ∷ []

abbrev pub joined : Option (Option ℕ) → Option ℕ
joined (Some x) = x
joined None = None

abbrev pub from_of : Froms → ℕ → Option ℕ
from_of froms t = joined (slice_get froms t)

-- the entry body that another task ran for its call is over (RM 9.5.3)
abbrev pub is_over : (before after : TaskPlace) → Bool
is_over (IsServed o) IsReady = true
is_over (IsServed o) IsRunning = true
is_over _ _ = false

-- An exception that task t raises is its own, and left to each caller whose entry body that step ends.
abbrev pub has_it : (before after : ℕ → TaskPlace) → (t u : ℕ) → Bool
has_it before after t u = nat_eq u t || is_over (before u) (after u)

-- from where it came: the instruction that raises it; or, where it is raised again at a call, the one that raised it before
abbrev pub came_from : Froms → ℕ → Raising → Option ℕ
came_from froms t r = if r.is_pending then from_of froms t else Some r.place

-- from where the exceptions of the actors from a number on came, after a step in which t has an exception that came from there
abbrev pub left_from : Option ℕ → (before after : ℕ → TaskPlace) → (t u : ℕ) → Froms → Froms
left_from came before after t u [] = []
left_from came before after t u (old ∷ rest) = (if has_it before after t u then came else old) ∷ left_from came before after t (suc u) rest

-- behind a step, by what it raises, where actors were and are, and who ran
abbrev pub after_step : Froms → Option Raising → (before after : ℕ → TaskPlace) → Option ℕ → Froms
after_step froms None before after running = froms
after_step froms (Some r) before after None = froms
after_step froms (Some r) before after (Some t) = left_from (came_from froms t r) before after t 0 froms

-- behind so many steps of an image's code
abbrev pub froms_after : Sections → List ScheduleLine → ℕ → Froms
froms_after i schedule zero = no_froms ACTORS
froms_after i schedule (suc n) =
    let w = code i schedule n in
    after_step (froms_after i schedule n) (next_raising i schedule w) w.kernel.place (code i schedule (suc n)).kernel.place w.kernel.running

-- the instruction from which the last exception came that the task had within so many steps, if it had one
abbrev pub raised_from : Sections → List ScheduleLine → ℕ → (task : ℕ) → Option ℕ
raised_from i schedule n task = from_of (froms_after i schedule n) task
