use Rattle.std.proofs.Common.{ap, rules, subst, ◌∙◌}
use Rattle.std.specs.Prelude.{IfSome}
use Rattle.tasking.specs.Held.{kernel_of}
use Rattle.tasking.specs.Orderly.{time_ahead}
use Rattle.searching.specs.Following.{IsEncoded, IsSeenIn}
use Rattle.searching.proofs.moment.Moment.of.Goals as goal

pub returns : goal.returns
returns g c =
    let same = c.tasking-tasking.ensures.same in
    let h = c.args.execution.now in
    let seen = subst (λ o. IfSome o (IsSeenIn h)) c.in-Some-world.is c.in_ok-world.ensures in
    let encoded = subst (λ o. IfSome o (λ v. IsSeenIn h c.in-Some-world.world → IsEncoded h v.items)) c.in-Some-words.is c.in_ok-words.ensures in
    record {
      seen = seen;
      encoded = encoded seen;
      pause = c.in_ok-pause.ensures;
      next = c.next_interrupt-next.ensures ∙ ap (λ t. time_ahead (kernel_of t).pending) same;
      blind = c.may_leave.ensures (search (rules, c.if-not-may_leave.false));
    }
