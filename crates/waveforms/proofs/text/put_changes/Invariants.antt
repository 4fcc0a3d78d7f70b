use Rattle.std.proofs.Common.{◌≡◌, ◌+◌, ◌-◌, ◌*◌, ◌≤◌, ◌++◌, drop, length, vec_capacity, vec_len}
use Rattle.waveforms.specs.Waves.{changes_text}
use Rattle.waveforms.specs.declared.text.TheConstants.{VALUE_BYTES}
use Rattle.waveforms.proofs.text.put_changes.Given as goal

-- the lines of the changes that are left are still to come
abbrev pub invariant-loop-signal : goal.invariant-loop-signal
invariant-loop-signal l =
    (l.text.items ++ changes_text l.signal (drop l.signal l.fn.before) (drop l.signal l.fn.after) ≡ l.fn.text.items ++ changes_text 0 l.fn.before l.fn.after)
    × (vec_len l.text ≤ vec_len l.fn.text + l.signal * VALUE_BYTES)
    × (vec_capacity l.fn.text ≤ vec_capacity l.text)
    × (l.signal ≤ length l.fn.after)

abbrev pub decreases-loop-signal : goal.decreases-loop-signal
decreases-loop-signal l = length l.fn.after - l.signal
