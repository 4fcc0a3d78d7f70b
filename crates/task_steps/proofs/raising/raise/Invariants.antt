use Rattle.std.proofs.Common.{◌≡◌, length}
use Rattle.image.specs.Steps.{unwind}
use Rattle.processor.specs.Decoding.{words_in}
use Rattle.task_steps.specs.Stepping.{MayRaise}
use Rattle.task_steps.proofs.raising.raise.Given as goal

abbrev pub invariant-loop-act : goal.invariant-loop-act
invariant-loop-act l =
    MayRaise l.program l.state.task
    × (l.state.width ≡ l.fn.state.width)
    × (unwind l.fn.program (words_in l.fn.program l.fn.memory.shared) l.fn.exception l.fn.state.task.frame l.fn.state.task.callers ≡ unwind l.fn.program (words_in l.fn.program l.fn.memory.shared) l.fn.exception l.state.task.frame l.state.task.callers)

abbrev pub decreases-loop-act : goal.decreases-loop-act
decreases-loop-act l = length l.state.task.callers
