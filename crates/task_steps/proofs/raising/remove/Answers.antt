use Rattle.std.proofs.Common.{◌≡◌, ap, ◌∙◌, sym}
use Rattle.image.specs.Frames.{Inner}
use Rattle.processor.specs.Decoding.{words_in}
use Rattle.processor.specs.Layout.{TaskRow, role_of}
use Rattle.task_steps.proofs.Unwinding.{goes_below}
use Rattle.task_steps.proofs.raising.remove.Goals as goal

pub returns-in-Inner-clause-unwinds : goal.returns-in-Inner-clause-unwinds
returns-in-Inner-clause-unwinds c =
    let inner : c.args.state.now.task.frame.role ≡ Inner = sym c.role-role.ensures ∙ ap role_of c.in-Inner.is in
    let below = goes_below c.args.program.now (words_in c.args.program.now c.args.memory.now.shared) c.args.exception c.image-image.ensures.well_formed c.frames_have_room.ensures c.args.state.now.task c.abandon.new.self.task c.requires.sound c.requires.callers c.requires.unhandled inner (ap {A = TaskRow} (λ r. r.task) c.abandon.ensures) in
    (below.raises, below.same, below.fewer)
