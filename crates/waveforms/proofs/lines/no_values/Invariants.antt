use Rattle.std.proofs.Common.{◌≡◌, ◌≤◌, ◌++◌, [], drop, length, vec_capacity, vec_len}
use Rattle.waveforms.specs.Lines.{line_values}
use Rattle.waveforms.proofs.lines.no_values.Given as goal

-- those of the labels that are left are still to come
abbrev pub invariant-loop-label : goal.invariant-loop-label
invariant-loop-label l =
    (l.values.items ++ line_values (drop l._label-index l.labels) [] ≡ line_values l.labels [])
    × (vec_len l.values ≡ l._label-index)
    × (length l.labels ≤ vec_capacity l.values)
