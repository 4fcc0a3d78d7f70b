use Rattle.std.proofs.Common.{[], subst, sym}
use Rattle.diagnostics.specs.continuations.Following.{Chosen, NoneLeft}
use Rattle.diagnostics.specs.declared.continuations.continuation.TheConstants.{EVERY_CONTINUATION}
use Rattle.diagnostics.proofs.Choosing.{one_more}
use Rattle.diagnostics.proofs.continuations.following.allowed.Goals as goal

pub loop-continuation-init : goal.loop-continuation-init
loop-continuation-init c = subst (Chosen c.args.front.now []) (sym c.new-list.ensures.items) NoneLeft

pub loop-continuation-preserved : goal.loop-continuation-preserved
loop-continuation-preserved c =
    one_more c.args.front.now EVERY_CONTINUATION c.loop-continuation.continuation-index _ _ _ c.loop-continuation-test.true c.in_ok-ask.ensures
    c.loop-continuation.invariant
