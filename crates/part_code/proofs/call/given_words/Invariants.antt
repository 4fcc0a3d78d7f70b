use Rattle.std.proofs.Common.{◌≡◌, ◌+◌, drop}
use Rattle.ada_tree.specs.Size.{total}
use Rattle.part_code.specs.PartCode.{given_words}
use Rattle.part_code.proofs.call.given_words.Given as goal

abbrev pub invariant-loop-destination : goal.invariant-loop-destination
invariant-loop-destination l =
    l.all + total (given_words l.visible.scope) (drop l.destination-index l.destinations) ≡ total (given_words l.visible.scope) l.destinations
