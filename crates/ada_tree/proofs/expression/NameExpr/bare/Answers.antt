use Rattle.std.proofs.Common.{arith, length, ap}
use Rattle.ada_tree.proofs.Rows.{bare_more}
use Rattle.ada_tree.proofs.expression.NameExpr.bare.Goals as goal

pub returns-in_default : goal.returns-in_default
returns-in_default c = bare_more c.args.self.now.first c.args.self.now.selectors.items (omega (arith, c.in_default.len_at_least, ap length c.as_slice.ensures.value))
