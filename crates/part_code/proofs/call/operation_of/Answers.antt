use Rattle.std.proofs.Common.{ap, arith, length}
use Rattle.part_code.proofs.WrittenActuals.{many_operations}
use Rattle.part_code.proofs.call.operation_of.Goals as goal

pub returns-in-len3-up : goal.returns-in-len3-up
returns-in-len3-up c = many_operations c.args.name.now.selectors.items (omega (arith, c.in-len3-up.len_at_least, ap length c.as_slice.ensures.value))
