use Rattle.std.proofs.Common.{arith}
use Rattle.diagnostics.proofs.Lines.{column_is}
use Rattle.diagnostics.proofs.hints.places.column_after.Goals as goal

pub returns : goal.returns
returns c = omega (arith, column_is c.args.text.now, c.line_start.ensures.start)
