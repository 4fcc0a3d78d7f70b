use Rattle.std.proofs.Common.{ap, ◌∙◌, sym, None}
use Rattle.processor.specs.Decoding.{words_in}
use Rattle.processor.specs.Layout.{TaskRow}
use Rattle.task_steps.specs.Acting.{stepped_of}
use Rattle.task_steps.proofs.Unwinding.{handled}
use Rattle.task_steps.proofs.raising.unwind_frame.Goals as goal

pub returns-in-Some-clause-unwinds : goal.returns-in-Some-clause-unwinds
returns-in-Some-clause-unwinds c =
    let i = c.args.program.now in
    let m = c.args.memory.now in
    let task = ap {A = TaskRow} (λ r. r.task) (c.set_raising.ensures ∙ ap {A = TaskRow} (λ r. record r { task = record r.task { raising = None } }) c.handle.ensures) in
    handled i (words_in i m.shared) c.args.exception c.args.state.now.task.frame c.args.state.now.task.callers c.in-Some.target (sym c.handler.ensures.is ∙ c.in-Some.is)
    ∙ sym (λ j. stepped_of i (c.of.ensures j) m (task j))
