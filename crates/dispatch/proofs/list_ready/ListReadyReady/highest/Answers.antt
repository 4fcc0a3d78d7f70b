use Rattle.std.proofs.Common.{refl, rules}
use Rattle.dispatch.specs.Queues.{highest}
use Rattle.dispatch.proofs.list_ready.ListReadyReady.highest.Goals as goal

pub loop-below-init : goal.loop-below-init
unfolding highest
loop-below-init c = (refl, search rules)
