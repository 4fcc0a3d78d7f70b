use Rattle.std.proofs.Common.{◌≡◌, ◌≤◌}
use Rattle.arrayvec.specs.ArrayVec.{array_vec_len}
use Rattle.tracing.specs.Changes.{each, ready}
use Rattle.tracing.proofs.comparing.starts.Given as goal

abbrev pub invariant-loop-task : goal.invariant-loop-task
invariant-loop-task g l = (l.events.items ≡ each l.task ready) × (array_vec_len l.events ≤ l.task)
