use Rattle.std.proofs.Common.{◌<◌, sym, subst, ◌∙◌}
use Rattle.base.specs.declared.limits.TheConstants.{PRIORITIES}
use Rattle.kernel.specs.State.{active}
use Rattle.tasking.specs.Held.{kernel_of}
use Rattle.tasking.proofs.Moves.{lent_kept, lent_same, seen}
use Rattle.tasking.proofs.Objects.{active_is}
use Rattle.tasking.proofs.Standing.{active_low}
use Rattle.tasking.proofs.tasking.Tasking.active.Goals as goal

same : goal.returns-clause-same
same g c =
    let now = lent_same (seen c.self.view_is) c.deref.ensures c.self.view_is in
    let kept = lent_kept (seen c.self.view_is) c.deref.ensures c.self.invariant in
    c.active.ensures
    ∙ active_is (seen now) c.args.self.now now kept c.args.task c.requires c.told.result c.told.ensures.told

pub returns-clause-same : goal.returns-clause-same
returns-clause-same = same

pub returns-clause-low : goal.returns-clause-low
returns-clause-low g c =
    let h = seen c.self.view_is in
    let t = c.args.task in
    subst (λ n. n < PRIORITIES) (sym (same g c))
    (subst (λ v. active (kernel_of v) t < PRIORITIES) c.self.view_is (active_low (kernel_of h) t c.self.invariant.orderly))
