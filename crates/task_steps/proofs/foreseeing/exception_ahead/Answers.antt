use Rattle.std.proofs.Common.{◌≡◌, ◌∙◌, None, Some, ap, rules, sym}
use Rattle.processor.specs.Decoding.{words_in}
use Rattle.task_steps.specs.Acting.{solo_in}
use Rattle.task_steps.specs.Foreseen.{foreseen}
use Rattle.tasking.specs.Held.{kernel_of}
use Rattle.image.specs.Frames.{frames_in_use}
use Rattle.kernel.specs.State.{is_task}
use Rattle.task_steps.proofs.Raises.{operation_raises, raised_is}
use Rattle.task_steps.proofs.Ready.{is_ready}
use Rattle.task_steps.proofs.foreseeing.exception_ahead.Goals as goal

pub returns-in-Some : goal.returns-in-Some
returns-in-Some g c =
    let i = c.args.program.now in
    let k = kernel_of c.args.tasking.now in
    let s = c.args.state.now.task in
    let pending : Some c.in-Some.exception ≡ s.raising = search rules in
    ap (foreseen i c.args.schedule.now k c.args.task (words_in i c.args.memory.now.shared) s.frame (frames_in_use k.partition c.args.task s.callers)) pending
    ∙ sym (raised_is i c.args.schedule.now k c.args.task (solo_in i c.args.memory.now s))

pub of_operation-requires-clause-here : goal.of_operation-requires-clause-here
of_operation-requires-clause-here g c =
    let quiet : c.args.state.now.task.raising ≡ None = search rules in
    is_ready c.args.program.now c.image-image.ensures.well_formed c.frames_have_room.ensures
    (is_task (kernel_of c.args.tasking.now).partition c.args.task) c.args.state.now.task c.in-Some-operation.operation c.requires.sound
    quiet c.in-Some-operation.ensures

pub returns : goal.returns
returns g c =
    let quiet : c.args.state.now.task.raising ≡ None = search rules in
    c.of_operation.ensures
    ∙ operation_raises c.args.program.now c.args.schedule.now (kernel_of c.args.tasking.now) c.args.task
    (solo_in c.args.program.now c.args.memory.now c.args.state.now.task)
    c.in-Some-operation.operation quiet c.in-Some-operation.ensures
