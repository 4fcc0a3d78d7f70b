use Rattle.std.proofs.Common.{◌≡◌, ◌++◌}
use Rattle.waveforms.specs.Signals.{all_below, object_first}
use Rattle.waveforms.specs.Waves.{object_scope}
use Rattle.waveforms.proofs.declarations.add_objects.Given as goal

abbrev pub invariant-loop-object : goal.invariant-loop-object
invariant-loop-object l =
    (l.text.items ≡ l.fn.text.items ++ all_below l.object (object_scope l.fn.scopes l.fn.tasks)) × (l.signal ≡ object_first l.fn.scopes l.fn.tasks l.object)
