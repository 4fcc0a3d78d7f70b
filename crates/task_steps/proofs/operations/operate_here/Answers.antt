use Rattle.kernel.specs.State.{is_task}
use Rattle.tasking.specs.Held.{kernel_of}
use Rattle.task_steps.proofs.Ready.{is_ready}
use Rattle.task_steps.proofs.operations.operate_here.Goals as goal

pub operate-requires-clause-here : goal.operate-requires-clause-here
operate-requires-clause-here g c =
    is_ready c.args.program.now c.image-image.ensures.well_formed c.frames_have_room.ensures
    (is_task (kernel_of c.args.tasking.now).partition c.args.task) c.args.state.now.task c.args.operation c.requires.sound c.requires.quiet c.requires.here
