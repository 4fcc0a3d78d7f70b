use Rattle.std.proofs.Common.{arith, sym, ◌∙◌}
use Rattle.diagnostics.proofs.Lines.{starts_before, starts_behind}
use Rattle.diagnostics.proofs.hints.places.line_start.Goals as goal

pub returns-then-text-start-eq10-clause-start : goal.returns-then-text-start-eq10-clause-start
returns-then-text-start-eq10-clause-start c =
    sym (starts_behind c.args.text.now c.loop-start.start _ (omega (arith, c.loop-start-test.true)) c.loop-start.invariant.1 c.if-text-start-eq10.true)
    ∙ c.loop-start.invariant.0

pub loop-start-preserved : goal.loop-start-preserved
loop-start-preserved c = (
  starts_before c.args.text.now c.loop-start.start _ (omega (arith, c.loop-start-test.true)) c.loop-start.invariant.1 c.if-text-start-eq10.false
      ∙ c.loop-start.invariant.0,
  omega (arith, c.loop-start.invariant.1),
)
