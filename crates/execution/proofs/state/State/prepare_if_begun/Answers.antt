use Rattle.std.proofs.Common.{sym, ap, ◌∙◌}
use Rattle.kernel.specs.Interrupts.{actor_if}
use Rattle.tasking.specs.Held.{kernel_of}
use Rattle.execution.specs.Held.{begun, prepared}
use Rattle.execution.proofs.Begun.{begun_is}
use Rattle.execution.proofs.Tasks.{beyond_of}
use Rattle.execution.proofs.state.State.prepare_if_begun.Goals as goal

-- the handler that has begun is the one that runs, whose number is beyond those of the tasks
pub prepare-requires-clause-beyond : goal.prepare-requires-clause-beyond
prepare-requires-clause-beyond g c =
    let h = c.args.self.now in
    let runs = c.handler-now.ensures.running ∙ ap (λ v. actor_if (kernel_of v.tasking).partition (kernel_of v.tasking).running) c.self.view_is in
    beyond_of h.image (kernel_of h.tasking).partition c.requires c.handler-now.result (kernel_of h.tasking).running runs c.in-Some.handler
    (begun_is c.args.before c.args.is_over c.handler-now.result c.in-Some.handler (sym c.begun.ensures ∙ c.in-Some.is))

pub returns-in-Some-clause-state : goal.returns-in-Some-clause-state
returns-in-Some-clause-state g c =
    c.prepare.ensures
    ∙ ap {A = _} (λ o. record c.args.self.now { tasks = prepared c.args.self.now.image c.args.self.now.tasks o })
    (sym c.in-Some.is ∙ c.begun.ensures ∙ ap (begun c.args.before c.args.is_over) (c.handler-now.ensures.same ∙ ap (λ h. h.tasking.handler) c.self.view_is))
