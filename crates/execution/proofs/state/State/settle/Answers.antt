use Rattle.std.proofs.Common.{◌≡◌, ◌+◌, None, length, ap, subst, sym, ◌∙◌}
use Rattle.std.specs.Prelude.{IfSome}
use Rattle.image.specs.Rules.{IsWellFormed}
use Rattle.kernel.specs.Interrupts.{actor_if}
use Rattle.tasking.specs.Held.{kernel_of}
use Rattle.execution.specs.Held.{HeldWorld}
use Rattle.execution.proofs.RowsOf.{tasks_count}
use Rattle.execution.proofs.Settle.{settles_begun, still_there}
use Rattle.execution.proofs.state.State.settle.Goals as goal

pub prepare_if_begun-requires : goal.prepare_if_begun-requires
prepare_if_begun-requires g c =
    let w = subst (λ h. IsWellFormed h.image) c.self.view_is c.self.invariant.0 in
    let before =
    subst (λ h. h.tasking.handler ≡ actor_if (kernel_of h.tasking).partition (kernel_of h.tasking).running) c.self.view_is
    (sym c.handler-before.ensures.same ∙ c.handler-before.ensures.running) in
    still_there c.steps_whole.ensures.steps c.steps_whole.ensures.goes_on c.args.self.now c.does-settled.new.self w c.args.task c.args.act _ _ c.requires.owes before
    c.does-settled.ensures.does

pub returns-clause-settles : goal.returns-clause-settles
returns-clause-settles g c =
    let w = subst (λ h. IsWellFormed h.image) c.self.view_is c.self.invariant.0 in
    let size = subst (λ h. length h.tasks ≡ length h.image.tasks + 1) c.self.view_is (tasks_count c.self.inside.tasks.items ∙ c.self.invariant.1) in
    let before =
    subst (λ h. h.tasking.handler ≡ actor_if (kernel_of h.tasking).partition (kernel_of h.tasking).running) c.self.view_is
    (sym c.handler-before.ensures.same ∙ c.handler-before.ensures.running) in
    settles_begun c.steps_whole.ensures.steps c.steps_whole.ensures.goes_on c.args.self.now c.does-settled.new.self w c.args.task c.args.act _ _ c.requires.owes before
    c.does-settled.ensures.does c.prepare_if_begun.new.self c.handler-before.result size (c.handler-before.ensures.same ∙ ap (λ h. h.tasking.handler) c.self.view_is)
    c.prepare_if_begun.ensures.handler c.prepare_if_begun.ensures.state

pub returns-clause-going : goal.returns-clause-going
returns-clause-going g c =
    subst (λ h. IfSome c.does-settled.result.line (λ line. (kernel_of h.tasking).outcome ≡ None))
    (sym (ap {A = HeldWorld} (λ h. record c.does-settled.new.self { tasking = h.tasking }) c.prepare_if_begun.ensures.state)) c.does-settled.ensures.going
