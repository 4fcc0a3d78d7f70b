use Rattle.std.proofs.Common.{◌≡◌, ◌≢◌, ℕ, ◌-◌, ◌<◌, ◌≤◌, length}
use Rattle.kernel.specs.State.{IsReady}
use Rattle.tasking.specs.Held.{kernel_of, place_at}
use Rattle.searching.proofs.world.places_of.Given as goal

abbrev pub invariant-loop-task : goal.invariant-loop-task
invariant-loop-task g l =
    (length l.places.items ≡ l.task)
    × ((u : ℕ) → u < l.task → (place_at l.places.items u ≡ (kernel_of l.tasking).place u) × (place_at l.places.items u ≢ IsReady)) × (l.task ≤ l.count)

abbrev pub decreases-loop-task : goal.decreases-loop-task
decreases-loop-task g l = l.count - l.task
