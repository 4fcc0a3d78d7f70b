use Rattle.std.proofs.Common.{ℕ, ℤ, List, length}
use Rattle.choices.specs.Slots.{Slot}
use Rattle.image.specs.Sections.{Sections}
use Rattle.searching.specs.Following.{AreCheckpoints}
use Rattle.searching.specs.declared.sight.Wanted.{Wanted}
use Rattle.searching.proofs.path.Path.keep_those_of.Given as goal

abbrev pub invariant-loop-self : goal.invariant-loop-self
invariant-loop-self l =
    (i : Sections) (slots : List Slot) (until : ℤ) (limit : ℕ) (wanted : Wanted) → AreCheckpoints i slots until limit wanted l.fn.self
    → AreCheckpoints i slots until limit wanted l.self-inside.checkpoints.items

abbrev pub decreases-loop-self : goal.decreases-loop-self
decreases-loop-self l = length l.self-inside.checkpoints.items
