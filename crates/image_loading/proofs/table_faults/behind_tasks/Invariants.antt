use Rattle.std.proofs.Common.{◌≡◌, drop}
use Rattle.image_loading.specs.Loading.{behind_task, behind_all}
use Rattle.image_loading.proofs.table_faults.behind_tasks.Given as goal

abbrev pub invariant-loop-task : goal.invariant-loop-task
invariant-loop-task l = behind_all behind_task l.byte (drop l.task-index l.tasks) ≡ behind_all behind_task l.fn.start l.tasks
