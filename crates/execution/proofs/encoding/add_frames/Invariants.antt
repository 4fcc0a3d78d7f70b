use Rattle.std.proofs.Common.{◌≡◌, ◌++◌, length}
use Rattle.execution.specs.Encoding.{frames_words}
use Rattle.execution.proofs.encoding.add_frames.Given as goal

-- the frames that are left, added to the words so far, are all
abbrev pub invariant-loop-out : goal.invariant-loop-out
invariant-loop-out l =
    l.out.items ++ frames_words l.rest.task.frame l.rest.task.callers ≡ l.fn.out.items ++ frames_words l.fn.task.task.frame l.fn.task.task.callers

abbrev pub decreases-loop-out : goal.decreases-loop-out
decreases-loop-out l = length l.rest.task.callers
