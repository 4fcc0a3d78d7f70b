use Rattle.std.proofs.Common.{◌≡◌, ◌++◌, drop, vec_capacity, vec_len}
use Rattle.execution.specs.Held.{line_of}
use Rattle.waveforms.specs.LastValues.{noted}
use Rattle.waveforms.proofs.lines.note.Given as goal

-- those of the labels that are left are still to come
abbrev pub invariant-loop-index : goal.invariant-loop-index
invariant-loop-index l =
    (l.values.items ++ noted (line_of l.image l.line) (drop l.index l.labels) (drop l.index l.before) ≡ noted (line_of l.image l.line) l.labels l.before)
    × (vec_len l.values ≡ l.index)
    × (vec_capacity l.values ≡ vec_capacity l.fn.values)
