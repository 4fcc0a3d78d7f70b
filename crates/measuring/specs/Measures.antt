-- What is measured of what has happened to a task, of the calls of an object, of the use that a task makes of an object, and of the instants of a run.
use Rattle.std.specs.Prelude.{ℕ, zero, suc, ◌+◌, ◌-◌, ◌^◌, List, [], ◌∷◌, ℤ, pos, ◌-ℤ◌, Bool, true, false, Option, Some, None, max, min, nat_le, nat_lt, option_map, unsigned_abs, ◌&&◌, if◌then◌else◌}
use Rattle.kernel.specs.State.{Partition}
use Rattle.measuring.specs.declared.actor.ActorMeasures.{ActorMeasures}
use Rattle.measuring.specs.declared.happening.Happening.{Happening}
use Rattle.measuring.specs.declared.happening.Happening.TheVariants.{Released, Steps, Rests, Preempted, HasWaited, Late}
use Rattle.measuring.specs.declared.instants.Instants.{Instants}
use Rattle.measuring.specs.declared.object.ObjectMeasures.{ObjectMeasures}
use Rattle.measuring.specs.declared.usage.Usage.{Usage}
use Rattle.measuring.specs.declared.usage.Usage.TheVariants as uses
use Rattle.measuring.specs.declared.usage.UsageMeasures.{UsageMeasures}

-- Stories have the latest first. No number is greater than 2 ^ 64 - 1: a greater sum is written as that.

abbrev pub plus : ℕ → ℕ → ℕ
plus m n = min (m + n) (2 ^ 64 - 1)

abbrev pub counted : Bool → ℕ → ℕ
counted true n = plus n 1
counted false n = n

-- how many elements of a list this holds of
abbrev pub count : {X : Type 0} → (X → Bool) → List X → ℕ
count test [] = 0
count test (x ∷ xs) = counted (test x) (count test xs)

abbrev pub added : Option ℕ → ℕ → ℕ
added None n = n
added (Some m) n = plus n m

-- the sum of what the elements of a list give that give anything
abbrev pub sum : {X : Type 0} → (X → Option ℕ) → List X → ℕ
sum f [] = 0
sum f (x ∷ xs) = added (f x) (sum f xs)

abbrev pub greater : Option ℕ → ℕ → ℕ
greater None n = n
greater (Some m) n = max n m

-- the greatest of what they give, or 0
abbrev pub greatest : {X : Type 0} → (X → Option ℕ) → List X → ℕ
greatest f [] = 0
greatest f (x ∷ xs) = greater (f x) (greatest f xs)

-- Jobs: one begins with each release, and has the steps that its task takes up to the next one

abbrev pub is_release : Happening → Bool
is_release (Released time step) = true
is_release happening = false

abbrev pub is_step : Happening → Bool
is_step (Steps step frames) = true
is_step happening = false

-- the steps of the last job
abbrev pub last_job : List Happening → ℕ
last_job [] = 0
last_job (Released time step ∷ earlier) = 0
last_job (Steps step frames ∷ earlier) = plus (last_job earlier) 1
last_job (Rests ∷ earlier) = last_job earlier
last_job (Preempted ∷ earlier) = last_job earlier
last_job (HasWaited time ∷ earlier) = last_job earlier
last_job (Late by ∷ earlier) = last_job earlier

-- the most steps of a job
abbrev pub longest_job : List Happening → ℕ
longest_job [] = 0
longest_job (Steps step frames ∷ earlier) = max (longest_job earlier) (last_job (Steps step frames ∷ earlier))
longest_job (Released time step ∷ earlier) = longest_job earlier
longest_job (Rests ∷ earlier) = longest_job earlier
longest_job (Preempted ∷ earlier) = longest_job earlier
longest_job (HasWaited time ∷ earlier) = longest_job earlier
longest_job (Late by ∷ earlier) = longest_job earlier

abbrev pub lesser : Option ℕ → ℕ → ℕ
lesser None n = n
lesser (Some m) n = min m n

-- the least steps of a job, of the jobs that are over
abbrev pub shortest_job : List Happening → Option ℕ
shortest_job [] = None
shortest_job (Rests ∷ earlier) = Some (lesser (shortest_job earlier) (last_job earlier))
shortest_job (Steps step frames ∷ earlier) = shortest_job earlier
shortest_job (Released time step ∷ earlier) = shortest_job earlier
shortest_job (Preempted ∷ earlier) = shortest_job earlier
shortest_job (HasWaited time ∷ earlier) = shortest_job earlier
shortest_job (Late by ∷ earlier) = shortest_job earlier

-- how many steps of the run had been taken when the last job began
abbrev pub steps_before : List Happening → ℕ
steps_before [] = 0
steps_before (Released time step ∷ earlier) = step
steps_before (Steps step frames ∷ earlier) = steps_before earlier
steps_before (Rests ∷ earlier) = steps_before earlier
steps_before (Preempted ∷ earlier) = steps_before earlier
steps_before (HasWaited time ∷ earlier) = steps_before earlier
steps_before (Late by ∷ earlier) = steps_before earlier

-- the most steps of the run, by whatever task, from the beginning of a job up to its last step, and with that one
abbrev pub response : List Happening → ℕ
response [] = 0
response (Steps step frames ∷ earlier) = max (response earlier) (step - steps_before earlier)
response (Released time step ∷ earlier) = response earlier
response (Rests ∷ earlier) = response earlier
response (Preempted ∷ earlier) = response earlier
response (HasWaited time ∷ earlier) = response earlier
response (Late by ∷ earlier) = response earlier

-- Releases

-- the time of the last one
abbrev pub last_release : List Happening → Option ℤ
last_release [] = None
last_release (Released time step ∷ earlier) = Some time
last_release (Steps step frames ∷ earlier) = last_release earlier
last_release (Rests ∷ earlier) = last_release earlier
last_release (Preempted ∷ earlier) = last_release earlier
last_release (HasWaited time ∷ earlier) = last_release earlier
last_release (Late by ∷ earlier) = last_release earlier

abbrev pub nearer : (last : Option ℤ) → ℤ → Option ℕ → Option ℕ
nearer None time least = least
nearer (Some last) time least = Some (lesser least (unsigned_abs (time -ℤ last)))

-- the least distance in time of two releases, one after the other
abbrev pub least_apart : List Happening → Option ℕ
least_apart [] = None
least_apart (Released time step ∷ earlier) = nearer (last_release earlier) time (least_apart earlier)
least_apart (Steps step frames ∷ earlier) = least_apart earlier
least_apart (Rests ∷ earlier) = least_apart earlier
least_apart (Preempted ∷ earlier) = least_apart earlier
least_apart (HasWaited time ∷ earlier) = least_apart earlier
least_apart (Late by ∷ earlier) = least_apart earlier

-- Frames: what a task has of them before a step of it

abbrev pub below_of : Happening → Option ℕ
below_of (Steps step frames) = option_map (λ u. u.below) frames
below_of happening = None

abbrev pub words_of : Happening → Option ℕ
words_of (Steps step frames) = option_map (λ u. u.words) frames
words_of happening = None

-- Preemption, queues and lateness

abbrev pub is_preemption : Happening → Bool
is_preemption Preempted = true
is_preemption happening = false

abbrev pub is_wait : Happening → Bool
is_wait (HasWaited time) = true
is_wait happening = false

abbrev pub wait_of : Happening → Option ℕ
wait_of (HasWaited time) = Some time
wait_of happening = None

abbrev pub is_late : Happening → Bool
is_late (Late by) = true
is_late happening = false

abbrev pub lateness_of : Happening → Option ℕ
lateness_of (Late by) = Some by
lateness_of happening = None

-- all that is measured of a task
abbrev pub measures : List Happening → ActorMeasures
measures story = record {
  jobs = count is_release story;
  steps = count is_step story;
  last_job = last_job story;
  shortest_job = shortest_job story;
  longest_job = longest_job story;
  steps_before = steps_before story;
  response = response story;
  deepest = greatest below_of story;
  widest = greatest words_of story;
  preempted = count is_preemption story;
  waits = count is_wait story;
  longest_wait = greatest wait_of story;
  total_wait = sum wait_of story;
  late = count is_late story;
  latest = greatest lateness_of story;
  last_release = last_release story;
  least_apart = least_apart story;
}

-- Objects

abbrev pub is_any : Bool → Bool
is_any is_queued = true

abbrev pub is_queued : Bool → Bool
is_queued queued = queued

-- of an object's calls: how many there were, and how many waited in the queue
abbrev pub object_measures : List Bool → ObjectMeasures
object_measures calls = record { calls = count is_any calls; queued = count is_queued calls }

-- Actions: one has the steps that its task takes while it is open: those after the step that opens it, up to the one with which the task leaves the object

abbrev pub is_call : Usage → Bool
is_call uses.Calls = true
is_call usage = false

-- the steps inside the object since it was last left
abbrev pub last_action : List Usage → ℕ
last_action [] = 0
last_action (uses.Leaves ∷ earlier) = 0
last_action (uses.StepsInside ∷ earlier) = plus (last_action earlier) 1
last_action (uses.Calls ∷ earlier) = last_action earlier

-- the most steps of an action
abbrev pub longest_action : List Usage → ℕ
longest_action [] = 0
longest_action (uses.StepsInside ∷ earlier) = max (longest_action earlier) (last_action (uses.StepsInside ∷ earlier))
longest_action (uses.Leaves ∷ earlier) = longest_action earlier
longest_action (uses.Calls ∷ earlier) = longest_action earlier

-- all that is measured of a task at an object
abbrev pub usage_measures : List Usage → UsageMeasures
usage_measures usages = record { calls = count is_call usages; last_action = last_action usages; longest_action = longest_action usages }

-- Blocking

-- the greatest of what a function gives of the numbers below n, or 0
abbrev pub most_below : ℕ → (ℕ → ℕ) → ℕ
most_below zero f = 0
most_below (suc n) f = max (most_below n f) (f n)

-- an action of u at o can keep t waiting: u, of the lower base priority, has within it the ceiling of o as its active priority at least (RM D.3)
abbrev pub can_block : Partition → (t u o : ℕ) → Bool
can_block p t u o = nat_lt (p.base u) (p.base t) && nat_le (p.base t) (p.ceiling o)

-- the most steps of one action of u that can keep t waiting, at so many objects, by its longest action at each
abbrev pub blocked_by : Partition → (objects : ℕ) → (longest : ℕ → ℕ) → (t u : ℕ) → ℕ
blocked_by p objects longest t u = most_below objects (λ o. if can_block p t u o then longest o else 0)

-- and of so many tasks and handlers, by the longest action of each at each object
abbrev pub blocking : Partition → (actors : ℕ) → (longest : ℕ → ℕ → ℕ) → ℕ → ℕ
blocking p actors longest t = most_below actors (λ u. blocked_by p p.objects (longest u) t u)

-- Instants: the steps that are taken at one time

abbrev pub no_steps : Instants
no_steps = record { present = 0; most = 0; time = pos 0 }

-- with a step at this time, after which the clock moves or not
abbrev pub with_step : (now : ℤ) (moves : Bool) → Instants → Instants
with_step now moves instants =
    let present = plus instants.present 1 in
    record {
      present = if moves then 0 else present;
      most = max instants.most present;
      time = if nat_lt instants.most present then now else instants.time;
    }
