use Rattle.std.proofs.Common.{◌≡◌, ◌++◌, drop}
use Rattle.set_measures.specs.Text.{lines_text}
use Rattle.set_measures.proofs.reporting.add_lines.Given as goal

abbrev pub invariant-loop-line : goal.invariant-loop-line
invariant-loop-line l =
    l.text.items ++ lines_text l.number (drop l.line-index l.lines) ≡ l.fn.text.items ++ lines_text l.fn.number l.fn.lines
