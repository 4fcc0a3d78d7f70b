use Rattle.std.proofs.Common.{rules}
use Rattle.searching.proofs.Seeing.{last_before}
use Rattle.searching.proofs.parting.last_before.Goals as goal

pub returns : goal.returns
returns c = search (rules, last_before c.args.time)
