use Rattle.std.proofs.Common.{◌<◌, subst}
use Rattle.dispatch.proofs.Rings.{no_lists}
use Rattle.dispatch.proofs.ring_ready.RingReadyReady.new.Goals as goal

pub returns : goal.returns
returns c = no_lists c.default.result (λ i d h. c.default.ensures.at i d (subst (λ n. i < n) c.default.ensures.long h))
