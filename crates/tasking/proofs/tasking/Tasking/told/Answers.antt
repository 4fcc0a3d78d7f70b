use Rattle.std.proofs.Common.{inl, inr, length, refl, sym, ◌∙◌}
use Rattle.std.proofs.lemmas.Bool.{ltb-true}
use Rattle.tasking.proofs.tasking.Tasking.told.Goals as goal

pub returns-then-is_task-clause-one : goal.returns-then-is_task-clause-one
returns-then-is_task-clause-one g c = inl (ltb-true c.args.task (length c.args.self.now.objects.bases) (sym c.is_task.ensures ∙ c.if-is_task.true))

pub returns-else-is_task-clause-one : goal.returns-else-is_task-clause-one
returns-else-is_task-clause-one g c = inr refl
