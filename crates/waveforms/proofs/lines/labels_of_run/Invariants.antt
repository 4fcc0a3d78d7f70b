use Rattle.std.proofs.Common.{◌≤◌, ◌+◌, ◌-◌}
use Rattle.waveforms.proofs.Labels.{Labelled}
use Rattle.waveforms.proofs.lines.labels_of_run.Given as goal

abbrev pub invariant-loop-taken : goal.invariant-loop-taken
invariant-loop-taken g l = Labelled l.fn.image l.fn.schedule l.taken l.machine l.labels.items × (l.taken ≤ l.fn.limit) × (l.steps ≤ l.fn.steps + l.taken)

abbrev pub decreases-loop-taken : goal.decreases-loop-taken
decreases-loop-taken g l = l.fn.limit - l.taken
