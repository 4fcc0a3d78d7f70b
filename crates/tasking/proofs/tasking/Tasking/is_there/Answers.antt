use Rattle.std.proofs.Common.{◌≡◌, [], Some, inl, inr, sym, ap, subst, ◌∙◌}
use Rattle.std.proofs.lemmas.Bool.{ltb-false, ltb-true}
use Rattle.kernel.specs.State.{active, is_task}
use Rattle.base.specs.declared.limits.TheConstants.{CEILING}
use Rattle.tasking.specs.Held.{Held, kernel_of}
use Rattle.tasking.proofs.Delivering.{gone_at}
use Rattle.tasking.proofs.tasking.Tasking.is_there.Goals as goal

pub returns-then-is_task-clause-there : goal.returns-then-is_task-clause-there
returns-then-is_task-clause-there g c = λ e. inl (ltb-true c.args.number _ (sym c.is_task.ensures ∙ c.if-is_task.true))

pub returns-clause-there : goal.returns-clause-there
returns-clause-there g c = λ e. inr (c.runs.ensures.runs e)

pub returns-clause-gone : goal.returns-clause-gone
returns-clause-gone g c = λ e.
    let idle = subst (λ (h : Held). h.running ≡ Some c.args.number → ⊥) (sym c.self.view_is) (c.runs.ensures.others e) in
    subst (λ h. (active (kernel_of h) c.args.number ≡ CEILING) × ((kernel_of h).actions c.args.number ≡ [])) c.self.view_is
    (gone_at _ c.self.invariant c.args.number (ltb-false c.args.number _ (ap (λ (h : Held). is_task (kernel_of h).partition c.args.number) c.self.view_is ∙ (sym c.is_task.ensures ∙ c.if-is_task.false))) idle)
