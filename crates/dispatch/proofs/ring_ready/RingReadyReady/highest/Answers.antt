use Rattle.std.proofs.Common.{subst, rules}
use Rattle.dispatch.specs.Rings.{IsMask}
use Rattle.dispatch.proofs.Rings.{by_mask, by_no_mask}
use Rattle.dispatch.proofs.ring_ready.RingReadyReady.highest.Goals as goal

pub returns-then-self-eq0-clause-same : goal.returns-then-self-eq0-clause-same
returns-then-self-eq0-clause-same c = by_no_mask c.args.self.now
    (subst (λ mask. IsMask mask c.args.self.now) c.if-self-eq0.true (subst (IsMask c.self.inside.occupied) c.self.view_is c.self.invariant.1))

pub returns-clause-same : goal.returns-clause-same
returns-clause-same c = by_mask c.self.inside.occupied c.args.self.now
    (subst (IsMask c.self.inside.occupied) c.self.view_is c.self.invariant.1) (search rules) c.if-self-eq0.false
