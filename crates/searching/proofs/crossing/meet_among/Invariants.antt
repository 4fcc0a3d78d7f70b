use Rattle.std.proofs.Common.{ℕ, ◌-◌}
use Rattle.execution.specs.Held.{HeldWorld}
use Rattle.searching.specs.Following.{AreKeptRows, CrossesFrom}
use Rattle.searching.proofs.crossing.meet_among.Given as goal

abbrev pub invariant-loop-at : goal.invariant-loop-at
invariant-loop-at g l =
    (h : HeldWorld) (n : ℕ) → CrossesFrom l.choices l.part l.choice h n l.execution l.moment → AreKeptRows h.image l.choices l.part l.fn.table
    → AreKeptRows h.image l.choices l.part l.table

abbrev pub decreases-loop-at : goal.decreases-loop-at
decreases-loop-at g l = l.last - l.at
