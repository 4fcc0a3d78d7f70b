use Rattle.std.proofs.Common.{◌≡◌, ◌++◌, drop, flat_map}
use Rattle.image_format.specs.Bytes.{task_bytes}
use Rattle.image_format.proofs.encoding.put_tasks.Given as goal

-- what is left, behind what stands, is the whole
abbrev pub invariant-loop-task : goal.invariant-loop-task
invariant-loop-task l = l.out.items ++ flat_map task_bytes (drop l.task-index l.tasks) ≡ l.fn.out.items ++ flat_map task_bytes l.tasks
