use Rattle.searching.specs.Following.{AreCheckpoints, AreKeptRows, Standing}
use Rattle.searching.proofs.Standing.{work_left}
use Rattle.searching.proofs.following.follow.Given as goal

abbrev pub invariant-loop-now : goal.invariant-loop-now
invariant-loop-now g l =
    Standing l.fn.execution.image l.schedule l.fn.until l.fn.limit l.fn.wanted l.execution l.now l.left
    × AreCheckpoints l.fn.execution.image l.choices l.fn.until l.fn.limit l.fn.wanted l.path
    × AreKeptRows l.fn.execution.image l.choices l.part l.table

abbrev pub decreases-loop-now : goal.decreases-loop-now
decreases-loop-now g l = work_left l.fn.until l.fn.limit l.now l.left
