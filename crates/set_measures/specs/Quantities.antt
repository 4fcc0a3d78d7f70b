-- What is measured of each run of a set: which measures there are, and the value that a run has of each.
use Rattle.std.specs.Prelude.{◌||◌, ℕ, List, [], ◌∷◌, ◌++◌, Bool, Option, Some, None, length, map, nat_lt, if◌then◌else◌}
use Rattle.base.specs.declared.limits.TheConstants.{OBJECTS}
use Rattle.image.specs.Sections.{Sections}
use Rattle.measuring.specs.Measures.{measures, object_measures, usage_measures}
use Rattle.measuring.specs.Runs.{calls, instants, stories, usages}
use Rattle.measuring.specs.Text.{actors_of, blocking_in, frames_of}
use Rattle.measuring.specs.declared.actor.ActorMeasures.{ActorMeasures}
use Rattle.measuring.specs.declared.object.ObjectMeasures.{ObjectMeasures}
use Rattle.measuring.specs.declared.usage.UsageMeasures.{UsageMeasures}
use Rattle.set_measures.specs.Choices.{each_below}
use Rattle.set_measures.specs.Runs.{Run}
use Rattle.set_measures.specs.declared.measure.ActorQuantity.{ActorQuantity}
use Rattle.set_measures.specs.declared.measure.ActorQuantity.TheVariants.{Jobs, Steps, LeastSteps, MostSteps, Response, Blocking, Preemptions, QueuedCalls, LongestWait, TotalWait, LateDelays, Lateness, LeastDistance, Frames, Words}
use Rattle.set_measures.specs.declared.measure.Direction.{Direction}
use Rattle.set_measures.specs.declared.measure.Direction.TheVariants.{Greatest, Least}
use Rattle.set_measures.specs.declared.measure.Measure.{Measure}
use Rattle.set_measures.specs.declared.measure.Measure.TheVariants as of
use Rattle.set_measures.specs.declared.measure.ObjectQuantity.{ObjectQuantity}
use Rattle.set_measures.specs.declared.measure.ObjectQuantity.TheVariants as object
use Rattle.set_measures.specs.declared.measure.UsageQuantity.{UsageQuantity}
use Rattle.set_measures.specs.declared.measure.UsageQuantity.TheVariants as usage

-- ---- which measures there are, in the order in which they are written

abbrev pub of_actor : ℕ → List Measure
of_actor t = map (of.OfActor t)
    (Jobs ∷ Steps ∷ LeastSteps ∷ MostSteps ∷ Response ∷ Blocking ∷ Preemptions ∷ QueuedCalls ∷ LongestWait ∷ TotalWait ∷ LateDelays ∷ Lateness
    ∷ LeastDistance ∷ Frames ∷ Words ∷ [])

abbrev pub of_object : ℕ → List Measure
of_object o = of.OfObject o object.Calls ∷ of.OfObject o object.QueuedCalls ∷ []

abbrev pub of_usage : ℕ → ℕ → List Measure
of_usage t o = of.OfUsage t o usage.Calls ∷ of.OfUsage t o usage.LongestAction ∷ []

-- of each task and handler, of each object, of each task or handler at each object, and of instants
abbrev pub measures_of : Sections → List Measure
measures_of i =
    each_below (actors_of i) of_actor
    ++ each_below (length i.objects) of_object
    ++ each_below (actors_of i) (λ t. each_below (length i.objects) (of_usage t))
    ++ of.OfInstants ∷ []

-- ---- what is asked for: the greatest value, or the least

abbrev pub direction_of_actor : ActorQuantity → Direction
direction_of_actor LeastSteps = Least
direction_of_actor LeastDistance = Least
direction_of_actor quantity = Greatest

abbrev pub direction_of : Measure → Direction
direction_of (of.OfActor t quantity) = direction_of_actor quantity
direction_of measure = Greatest

-- ---- the value of a measure, if there is one

abbrev pub actor_value : (frames blocking : ℕ) → ActorMeasures → ActorQuantity → Option ℕ
actor_value frames blocking m Jobs = Some m.jobs
actor_value frames blocking m Steps = Some m.steps
actor_value frames blocking m LeastSteps = m.shortest_job
actor_value frames blocking m MostSteps = Some m.longest_job
actor_value frames blocking m Response = Some m.response
actor_value frames blocking m Blocking = Some blocking
actor_value frames blocking m Preemptions = Some m.preempted
actor_value frames blocking m QueuedCalls = Some m.waits
actor_value frames blocking m LongestWait = Some m.longest_wait
actor_value frames blocking m TotalWait = Some m.total_wait
actor_value frames blocking m LateDelays = Some m.late
actor_value frames blocking m Lateness = Some m.latest
actor_value frames blocking m LeastDistance = m.least_apart
actor_value frames blocking m Frames = Some frames
actor_value frames blocking m Words = Some m.widest

-- a handler that hasn't run has no value, as it has no row in the tables of its run
abbrev pub has_run : Sections → ℕ → ActorMeasures → Bool
has_run i t m = nat_lt t (length i.tasks) || nat_lt 0 m.jobs

abbrev pub value_of_actor : Sections → ℕ → (blocking : ℕ) → ActorMeasures → ActorQuantity → Option ℕ
value_of_actor i t blocking m quantity = if has_run i t m then actor_value (frames_of i t m) blocking m quantity else None

abbrev pub object_value : ObjectMeasures → ObjectQuantity → ℕ
object_value m object.Calls = m.calls
object_value m object.QueuedCalls = m.queued

abbrev pub usage_value : UsageMeasures → UsageQuantity → ℕ
usage_value m usage.Calls = m.calls
usage_value m usage.LongestAction = m.longest_action

-- in a run, by what has happened in it up to its bound (measuring/specs/Measures); no image has an object of a number from OBJECTS on
abbrev pub value_of : Sections → Run → Measure → Option ℕ
value_of i r (of.OfActor t quantity) =
    let blocking = blocking_in i (λ u o. usage_measures (usages i r.schedule r.bound.steps u o)) t in
    value_of_actor i t blocking (measures (stories i r.schedule r.bound.steps t)) quantity
value_of i r (of.OfObject o quantity) = Some (object_value (object_measures (calls i r.schedule r.bound.steps o)) quantity)
value_of i r (of.OfUsage t o quantity) =
    if nat_lt o OBJECTS then Some (usage_value (usage_measures (usages i r.schedule r.bound.steps t o)) quantity) else None
value_of i r of.OfInstants = Some (instants i r.schedule r.bound.steps).most
