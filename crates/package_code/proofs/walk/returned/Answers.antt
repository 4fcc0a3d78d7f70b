use Rattle.package_code.proofs.BodyRefused.{many_none}
use Rattle.package_code.proofs.walk.returned.Goals as goal

pub unreachable-requires-in-len2-up : goal.unreachable-requires-in-len2-up
unreachable-requires-in-len2-up c = many_none c.args.statements.now c.in-len2-up.len_at_least c.requires
