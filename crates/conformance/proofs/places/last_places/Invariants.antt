use Rattle.std.proofs.Common.{map, take}
use Rattle.ada_tree.specs.ProgramTree.{body_item_tree}
use Rattle.conformance.specs.Tables.{AreLastPlaces}
use Rattle.conformance.proofs.places.last_places.Given as goal

abbrev pub invariant-loop-place : goal.invariant-loop-place
invariant-loop-place l = AreLastPlaces (map body_item_tree (take l.place l.items)) l.places.table.entries
