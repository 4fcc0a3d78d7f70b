use Rattle.std.proofs.Common.{◌<◌, subst}
use Rattle.dispatch.proofs.Lists.{no_tasks}
use Rattle.dispatch.proofs.list_ready.ListReadyReady.new.Goals as goal

pub returns : goal.returns
returns c = no_tasks (λ l. l.items) c.default.result (λ i d h. c.default.ensures.at i d (subst (λ n. i < n) c.default.ensures.long h))
