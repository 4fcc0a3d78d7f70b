use Rattle.std.proofs.Common.{ap, arith, length}
use Rattle.part_code.proofs.WrittenActuals.{many_selectors}
use Rattle.part_code.proofs.call.actuals_of.Goals as goal

pub returns-in-len2-up : goal.returns-in-len2-up
returns-in-len2-up c = many_selectors c.args.name.now.selectors.items (omega (arith, c.in-len2-up.len_at_least, ap length c.as_slice.ensures.value))
