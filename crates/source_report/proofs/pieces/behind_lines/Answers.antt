use Rattle.std.proofs.Common.{◌∙◌, drop, sym}
use Rattle.source_report.proofs.Lines.{no_more}
use Rattle.source_report.proofs.pieces.behind_lines.Goals as goal

pub returns-then-left-eq0-clause-place : goal.returns-then-left-eq0-clause-place
returns-then-left-eq0-clause-place c =
    sym (no_more c.loop-index.left c.loop-index.index (drop c.loop-index.index c.args.text.now) c.if-left-eq0.true) ∙ c.loop-index.invariant
