use Rattle.std.proofs.Common.{ap, ◌∙◌, sym}
use Rattle.base.specs.declared.limits.TheConstants.{PRIORITIES}
use Rattle.kernel.specs.Dispatching.{highest, runs_from}
use Rattle.tasking.specs.Held.{kernel_of}
use Rattle.tasking.proofs.Dispatching.{outranked_task, over_is}
use Rattle.tasking.proofs.tasking.Tasking.dispatch.Goals as goal

pub returns-in-Some : goal.returns-in-Some
returns-in-Some g c =
    c.run_highest-in-Some.ensures
    ∙ ap (λ k. runs_from (highest k.ready PRIORITIES) k) c.preempted.ensures
    ∙ over_is (kernel_of c.args.self.now) c.in-Some.task (sym c.in-Some.ensures.same) (sym c.is_outranked.ensures ∙ c.if-is_outranked.true)

pub preempted-requires-clause-task : goal.preempted-requires-clause-task
preempted-requires-clause-task g c =
    outranked_task c.args.self.now c.in-Some.task (sym c.is_outranked.ensures ∙ c.if-is_outranked.true)
