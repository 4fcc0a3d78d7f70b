use Rattle.std.proofs.Common.{◌≡◌, drop}
use Rattle.source_report.specs.Reports.{behind_lines}
use Rattle.source_report.proofs.pieces.behind_lines.Given as goal

-- what is left decides
abbrev pub invariant-loop-index : goal.invariant-loop-index
invariant-loop-index l = behind_lines l.left l.index (drop l.index l.fn.text) ≡ behind_lines l.fn.lines 0 l.fn.text
