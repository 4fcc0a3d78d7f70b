use Rattle.std.proofs.Common.{◌≡◌, ◌+◌, ◌-◌, ◌*◌, ◌≤◌, ◌++◌, drop, length, vec_capacity, vec_len}
use Rattle.waveforms.specs.Waves.{line_changes_text}
use Rattle.waveforms.specs.declared.text.TheConstants.{VALUE_BYTES}
use Rattle.waveforms.proofs.text.put_line_changes.Given as goal

-- the lines of the changes that are left are still to come
abbrev pub invariant-loop-index : goal.invariant-loop-index
invariant-loop-index l =
    (l.text.items ++ line_changes_text (l.fn.first + l.index) (drop l.index l.fn.before) (drop l.index l.fn.after) ≡ l.fn.text.items ++ line_changes_text l.fn.first l.fn.before l.fn.after)
    × (vec_len l.text ≤ vec_len l.fn.text + l.index * VALUE_BYTES)
    × (vec_capacity l.fn.text ≤ vec_capacity l.text)

abbrev pub decreases-loop-index : goal.decreases-loop-index
decreases-loop-index l = length l.fn.after - l.index
