use Rattle.diagnostics.proofs.Choosing.{begins_by_count}
use Rattle.diagnostics.proofs.repairs.mending.begins.Goals as goal

pub returns : goal.returns
returns c = begins_by_count c.args.tokens.now c.in_ok-count.count c.in_ok-count.ensures
