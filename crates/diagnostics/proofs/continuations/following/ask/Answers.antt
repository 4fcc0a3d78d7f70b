use Rattle.std.proofs.Common.{inr, refl}
use Rattle.diagnostics.proofs.Choosing.{cannot_follow}
use Rattle.diagnostics.proofs.continuations.following.ask.Goals as goal

pub returns-else-branch : goal.returns-else-branch
returns-else-branch c = inr (cannot_follow c.args.front.now c.args.continuation _ c.in_ok-can_follow.ensures c.if-branch.false, refl)
