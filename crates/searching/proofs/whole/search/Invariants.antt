use Rattle.std.proofs.Common.{◌≡◌}
use Rattle.std.specs.Prelude.{IfSome}
use Rattle.searching.specs.Following.{AreCheckpoints, AreKeptRows}
use Rattle.searching.specs.Passing.{Through}
use Rattle.searching.proofs.Through.{runs_left}
use Rattle.searching.proofs.whole.search.Given as goal

abbrev pub invariant-loop-is_more : goal.invariant-loop-is_more
invariant-loop-is_more g l =
    Through l.image l.choices l.part l.until l.limit l.wanted l.is_more l.choice × AreCheckpoints l.image l.choices l.until l.limit l.wanted l.path
    × AreKeptRows l.image l.choices l.part l.table × IfSome l.rooms (λ r. r.value ≡ l.image)

abbrev pub decreases-loop-is_more : goal.decreases-loop-is_more
decreases-loop-is_more g l = runs_left l.choices l.is_more l.choice
