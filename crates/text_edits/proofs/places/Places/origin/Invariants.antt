use Rattle.std.proofs.Common.{◌≡◌, drop}
use Rattle.text_edits.specs.Places.{origin, origin_from}
use Rattle.text_edits.proofs.places.Places.origin.Given as goal

abbrev pub invariant-loop-edit : goal.invariant-loop-edit
invariant-loop-edit l = origin_from l.at l.left (drop l.edit-index l.edits) ≡ origin l.fn.self l.fn.place
