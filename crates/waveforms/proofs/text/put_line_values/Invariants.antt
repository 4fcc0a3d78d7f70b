use Rattle.std.proofs.Common.{◌≡◌, ◌+◌, ◌*◌, ◌≤◌, ◌++◌, drop, vec_capacity, vec_len}
use Rattle.waveforms.specs.Waves.{line_values_text}
use Rattle.waveforms.specs.declared.text.TheConstants.{VALUE_BYTES}
use Rattle.waveforms.proofs.text.put_line_values.Given as goal

-- the lines of the values that are left are still to come
abbrev pub invariant-loop-value : goal.invariant-loop-value
invariant-loop-value l =
    (l.text.items ++ line_values_text l.signal (drop l.value-index l.values) ≡ l.fn.text.items ++ line_values_text l.fn.first l.values)
    × (l.signal ≡ l.fn.first + l.value-index)
    × (vec_len l.text ≤ vec_len l.fn.text + l.value-index * VALUE_BYTES)
    × (vec_capacity l.fn.text ≤ vec_capacity l.text)
