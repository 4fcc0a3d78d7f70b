use Rattle.std.proofs.Common.{◌≡◌, ◌++◌, drop, map}
use Rattle.image_loading.specs.Decoding.{task_from}
use Rattle.image_loading.proofs.decoding.tasks.Given as goal

-- what is left, behind what stands, is the whole
abbrev pub invariant-loop-task : goal.invariant-loop-task
invariant-loop-task l = l.made.items ++ map task_from (drop l.task-index l.tasks) ≡ map task_from l.tasks
