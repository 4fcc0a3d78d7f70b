use Rattle.std.proofs.Common.{◌≡◌, None, rules}
use Rattle.kernel.specs.State.{is_task}
use Rattle.tasking.specs.Held.{kernel_of}
use Rattle.task_steps.proofs.Ready.{is_ready}
use Rattle.task_steps.proofs.asking.asking_ahead.Goals as goal

pub operation_asks-requires-clause-here : goal.operation_asks-requires-clause-here
operation_asks-requires-clause-here g c =
    let quiet : c.args.state.now.task.raising ≡ None = search rules in
    is_ready c.args.program.now c.image-image.ensures.well_formed c.frames_have_room.ensures
    (is_task (kernel_of c.args.tasking.now).partition c.args.task) c.args.state.now.task c.in_ok-operation.operation c.requires.sound quiet
    c.in_ok-operation.ensures
