use Rattle.std.proofs.Common.{rules, ◌≡◌}
use Rattle.handlers.specs.Innermost.{handler_of}
use Rattle.task_steps.proofs.Unwinding.{handler_room}
use Rattle.task_steps.proofs.raising.handler.Goals as goal

pub returns-clause-room : goal.returns-clause-room
returns-clause-room c =
    let is : c.target.result ≡ handler_of c.args.program.now.rows c.args.state.now.task.frame.place c.args.exception = search rules in
    handler_room c.args.program.now c.image.ensures.well_formed c.steps_sound.ensures c.frames_have_room.ensures c.args.exception c.args.state.now.task c.requires c.target.result is
