use Rattle.std.proofs.Common.{◌≡◌, ◌++◌, drop, map}
use Rattle.execution.proofs.state.priorities.Given as goal

-- those of what is left, behind those that stand, are all
abbrev pub invariant-loop-task : goal.invariant-loop-task
invariant-loop-task l = l.bases.items ++ map (λ x. x.priority) (drop l.task-index l.tasks) ≡ map (λ x. x.priority) l.tasks
