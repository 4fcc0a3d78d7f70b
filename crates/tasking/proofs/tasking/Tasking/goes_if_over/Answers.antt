use Rattle.std.proofs.Common.{inr, not, ap, sym, ◌∙◌}
use Rattle.std.specs.Prelude.{◌&&◌}
use Rattle.kernel.specs.Effects.{goes_if, is_inside_any}
use Rattle.kernel.specs.Interrupts.{delivers}
use Rattle.tasking.specs.Held.{kernel_of}
use Rattle.tasking.proofs.Delivering.{nothing_inside, runs_as_handler}
use Rattle.tasking.proofs.Moves.{seen}
use Rattle.tasking.proofs.tasking.Tasking.goes_if_over.Goals as goal

pub is_inside_any-requires : goal.is_inside_any-requires
is_inside_any-requires g c = inr c.requires

pub handler_leaves-requires-clause-handler : goal.handler_leaves-requires-clause-handler
handler_leaves-requires-clause-handler g c =
    runs_as_handler (seen c.self.view_is) c.args.self.now c.self.view_is c.self.invariant c.args.task c.requires (sym c.is_task.ensures ∙ c.if-is_task.false)

pub handler_leaves-requires-clause-none : goal.handler_leaves-requires-clause-none
handler_leaves-requires-clause-none g c =
    nothing_inside (kernel_of c.args.self.now) c.args.task (sym c.is_inside_any.ensures ∙ c.if-is_inside_any.false)

pub deliver-requires : goal.deliver-requires
deliver-requires g c = ap (λ k. k.running) c.handler_leaves.ensures

pub returns-then-is_task-clause-kernel : goal.returns-then-is_task-clause-kernel
returns-then-is_task-clause-kernel g c =
    let k = kernel_of c.args.self.now in
    let t = c.args.task in
    sym (ap (λ b. goes_if (not b && not (is_inside_any k t)) t k) (sym c.is_task.ensures ∙ c.if-is_task.true))

pub returns-then-is_inside_any-clause-kernel : goal.returns-then-is_inside_any-clause-kernel
returns-then-is_inside_any-clause-kernel g c =
    let k = kernel_of c.args.self.now in
    let t = c.args.task in
    sym (ap (λ b. goes_if (not b && not (is_inside_any k t)) t k) (sym c.is_task.ensures ∙ c.if-is_task.false)
    ∙ ap (λ b. goes_if (not b) t k) (sym c.is_inside_any.ensures ∙ c.if-is_inside_any.true))

pub returns-clause-kernel : goal.returns-clause-kernel
returns-clause-kernel g c =
    let k = kernel_of c.args.self.now in
    let t = c.args.task in
    c.deliver.ensures
    ∙ (ap (λ v. delivers v.pending v) c.handler_leaves.ensures
    ∙ sym (ap (λ b. goes_if (not b && not (is_inside_any k t)) t k) (sym c.is_task.ensures ∙ c.if-is_task.false)
    ∙ ap (λ b. goes_if (not b) t k) (sym c.is_inside_any.ensures ∙ c.if-is_inside_any.false)))

pub returns-then-is_task-clause-over : goal.returns-then-is_task-clause-over
returns-then-is_task-clause-over g c =
    sym (ap (λ b. not b && not (is_inside_any (kernel_of c.args.self.now) c.args.task)) (sym c.is_task.ensures ∙ c.if-is_task.true))

pub returns-then-is_inside_any-clause-over : goal.returns-then-is_inside_any-clause-over
returns-then-is_inside_any-clause-over g c =
    sym (ap (λ b. not b && not (is_inside_any (kernel_of c.args.self.now) c.args.task)) (sym c.is_task.ensures ∙ c.if-is_task.false)
    ∙ ap not (sym c.is_inside_any.ensures ∙ c.if-is_inside_any.true))

pub returns-clause-over : goal.returns-clause-over
returns-clause-over g c =
    sym (ap (λ b. not b && not (is_inside_any (kernel_of c.args.self.now) c.args.task)) (sym c.is_task.ensures ∙ c.if-is_task.false)
    ∙ ap not (sym c.is_inside_any.ensures ∙ c.if-is_inside_any.false))
