use Rattle.std.proofs.Common.{◌≡◌, drop}
use Rattle.source_report.specs.Marked.{behind}
use Rattle.source_report.proofs.pieces.behind.Given as goal

-- what is left decides
abbrev pub invariant-loop-index : goal.invariant-loop-index
invariant-loop-index l = behind l.fn.value (drop l.index l.fn.text) ≡ behind l.fn.value l.fn.text
