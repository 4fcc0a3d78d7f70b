use Rattle.image_loading.specs.Loading.{behind_task, task_faults}
use Rattle.image_loading.proofs.FirstFault.{each_done, each_turn}
use Rattle.image_loading.proofs.table_faults.tasks_fault.Goals as goal

pub loop-number-preserved : goal.loop-number-preserved
loop-number-preserved c =
    rw (c.sooner-fault.ensures, c.behind_task-byte.ensures)
    (each_turn behind_task (task_faults c.args.parts.now) c.args.tasks.now c.loop-number.number c.loop-number.byte c.index-tasks-number.result c.loop-number.fault c.task_fault.result _ c.loop-number-test.true c.index-tasks-number.is c.loop-number.invariant c.task_fault.ensures)

pub returns : goal.returns
returns c = each_done behind_task (task_faults c.args.parts.now) c.args.tasks.now c.loop-number.number c.loop-number.byte c.loop-number.fault _ c.loop-number-test.false c.loop-number.invariant
