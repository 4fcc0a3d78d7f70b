use Rattle.std.proofs.Common.{ap, nat_eq}
use Rattle.types.proofs.Lists.{count_is}
use Rattle.types.proofs.standing.is_single.Goals as goal

pub returns : goal.returns
returns c = ap (λ n. nat_eq n 1) (count_is c.args.arguments.now)
