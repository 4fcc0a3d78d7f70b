use Rattle.std.proofs.Common.{◌≡◌, ◌++◌, drop}
use Rattle.tracing.specs.Traces.{lines_come}
use Rattle.pictures.specs.Drawn.{inputs_text}
use Rattle.pictures.proofs.event.add_inputs.Given as goal

-- what is left is still to come
abbrev pub invariant-loop-line : goal.invariant-loop-line
invariant-loop-line l =
    l.text.items ++ inputs_text l.fn.frame l.fn.step (lines_come l.fn.since l.fn.now (drop l.line-index l.fn.lines))
    ≡ l.fn.text.items ++ inputs_text l.fn.frame l.fn.step (lines_come l.fn.since l.fn.now l.fn.lines)
