use Rattle.std.proofs.Common.{◌≡◌, ◌≤◌}
use Rattle.std.specs.List.{All}
use Rattle.part_code.specs.Formals.{HasValue}
use Rattle.part_code.proofs.FormalWords.{PlacedSoFar}
use Rattle.part_code.proofs.FormalsRefused.{PlacesWords}
use Rattle.part_code.proofs.formals.place_all.Given as goal

abbrev pub invariant-loop-formal : goal.invariant-loop-formal
invariant-loop-formal l =
    PlacedSoFar l.scope l.fn.words.taken l.formals l.formal-index l.from l.words.taken l.placed.items
    × (l.words.taken ≤ l.words.most)
    × All (HasValue l.scope) l.placed.items
    × PlacesWords l.scope l.fn.words.taken l.formals l.formal-index l.from l.words.taken
    × (l.fn.words.most ≡ l.fn.words.taken → l.words.most ≡ l.words.taken)
