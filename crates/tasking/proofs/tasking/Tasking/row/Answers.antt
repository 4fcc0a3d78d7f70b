use Rattle.std.proofs.Common.{◌≤◌, arith, length, subst, sym, ◌∙◌}
use Rattle.std.proofs.lemmas.Bool.{ltb-true}
use Rattle.base.specs.declared.limits.TheConstants.{TASKS}
use Rattle.tasking.proofs.tasking.Tasking.row.Goals as goal

pub returns-then-is_task-clause-low : goal.returns-then-is_task-clause-low
returns-then-is_task-clause-low g c =
    let lt = ltb-true c.args.task (length c.args.self.now.objects.bases) (sym c.is_task.ensures ∙ c.if-is_task.true) in
    let few = subst (λ v. length v.objects.bases ≤ TASKS) c.self.view_is c.self.invariant.rows.few_tasks in
    omega (arith, lt, few, c.from.ensures)
