use Rattle.std.proofs.Common.{◌≡◌, ◌+◌, ◌*◌, ◌≤◌, ◌++◌, drop, vec_capacity, vec_len}
use Rattle.waveforms.specs.Waves.{values_text}
use Rattle.waveforms.specs.declared.text.TheConstants.{VALUE_BYTES}
use Rattle.waveforms.proofs.text.put_values.Given as goal

-- the lines of the values that are left are still to come
abbrev pub invariant-loop-signal : goal.invariant-loop-signal
invariant-loop-signal l =
    (l.text.items ++ values_text l.signal (drop l.signal l.fn.values) ≡ l.fn.text.items ++ values_text 0 l.fn.values)
    × (vec_len l.text ≤ vec_len l.fn.text + l.signal * VALUE_BYTES)
    × (vec_capacity l.fn.text ≤ vec_capacity l.text)
