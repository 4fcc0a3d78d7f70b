use Rattle.std.proofs.Common.{sym, ap, ◌∙◌}
use Rattle.kernel.specs.State.{active}
use Rattle.tasking.specs.Held.{kernel_of}
use Rattle.machine.proofs.running.Machine.active_of_actor.Goals as goal

pub active-requires : goal.active-requires
active-requires g c = c.is_there.ensures.there c.if-is_there.true

pub returns-then-is_there : goal.returns-then-is_there
returns-then-is_there g c =
    c.active.ensures.same ∙ ap (λ t. active (kernel_of t) c.args.actor) (c.tasking-tasking.ensures.same ∙ ap (λ h. h.tasking) c.self.view_is)

pub returns-else-is_there : goal.returns-else-is_there
returns-else-is_there g c =
    sym (c.is_there.ensures.gone c.if-is_there.false).0 ∙ ap (λ t. active (kernel_of t) c.args.actor) (c.tasking-tasking.ensures.same ∙ ap (λ h. h.tasking) c.self.view_is)
