use Rattle.std.proofs.Common.{◌≡◌, drop}
use Rattle.ada_tree.specs.Size.{total}
use Rattle.expr_code.specs.Pieces.{adds}
use Rattle.part_code.specs.PartCode.{copies_code, given_words}
use Rattle.part_code.proofs.call.copies.Given as goal

abbrev pub invariant-loop-destination : goal.invariant-loop-destination
invariant-loop-destination l =
    (l.height ≡ total (given_words l.visible.scope) (drop l.destination-index l.destinations))
    × (adds l.fragment (copies_code l.visible.scope (drop l.destination-index l.destinations)) ≡ adds l.fn.fragment (copies_code l.visible.scope l.destinations))
