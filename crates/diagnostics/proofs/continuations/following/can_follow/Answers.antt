use Rattle.std.proofs.Common.{subst}
use Rattle.std.specs.Prelude.{Decides, IfOk}
use Rattle.diagnostics.specs.continuations.Following.{GoesOnWith}
use Rattle.diagnostics.proofs.continuations.following.can_follow.Goals as goal

pub returns-in-Some : goal.returns-in-Some
returns-in-Some c =
    subst (λ kind. IfOk c.goes_on.result (λ can. Decides can (GoesOnWith c.args.front.now kind))) (c.in-Some.ensures) c.goes_on.ensures

pub returns-in-None : goal.returns-in-None
returns-in-None c = subst (λ kind. IfOk c.ends.result (λ can. Decides can (GoesOnWith c.args.front.now kind))) (c.in-None.ensures) c.ends.ensures
