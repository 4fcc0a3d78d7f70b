use Rattle.std.proofs.Common.{◌≡◌, ◌+◌, drop}
use Rattle.source_report.specs.Marked.{count_to}
use Rattle.source_report.proofs.pieces.count_to.Given as goal

-- what is left decides
abbrev pub invariant-loop-index : goal.invariant-loop-index
invariant-loop-index l = l.index + count_to l.fn.value (drop l.index l.fn.text) ≡ count_to l.fn.value l.fn.text
