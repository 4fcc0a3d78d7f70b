use Rattle.std.proofs.Common.{◌≡◌}
use Rattle.waveforms.specs.Signals.{object_first}
use Rattle.waveforms.proofs.values.signal_count.Given as goal

abbrev pub invariant-loop-object : goal.invariant-loop-object
invariant-loop-object l = l.count ≡ object_first l.fn.scopes l.fn.tasks l.object
