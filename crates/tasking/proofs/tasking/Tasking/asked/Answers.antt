use Rattle.std.proofs.Common.{None, Some, cond, nat_eq, ap, sym, ◌∙◌}
use Rattle.std.proofs.lemmas.Bool.{eq-eqb}
use Rattle.base.specs.declared.limits.TheConstants.{ACTOR}
use Rattle.kernel.specs.Interrupts.{actor_if}
use Rattle.tasking.specs.Held.{kernel_of}
use Rattle.tasking.proofs.Delivering.{asked_handler, handler_there}
use Rattle.tasking.proofs.Moves.{seen}
use Rattle.tasking.proofs.tasking.Tasking.asked.Goals as goal

pub returns-clause-same : goal.returns-clause-same
returns-clause-same g c =
    let k = kernel_of c.args.self.now in
    let n = c.args.number in
    asked_handler (seen c.self.view_is) c.self.invariant.handles
    ∙ (ap (λ v. actor_if (kernel_of v).partition v.running) c.self.view_is
    ∙ (sym (ap (λ b. cond b (actor_if k.partition k.running) None) (eq-eqb n ACTOR c.if-number-ne-ACTOR.false))
    ∙ sym (ap (λ b. cond b (Some n) (cond (nat_eq n ACTOR) (actor_if k.partition k.running) None)) (sym c.is_task.ensures ∙ c.if-is_task.false))))

pub returns-clause-there : goal.returns-clause-there
returns-clause-there g c = handler_there (seen c.self.view_is) c.args.self.now c.self.view_is c.self.invariant
