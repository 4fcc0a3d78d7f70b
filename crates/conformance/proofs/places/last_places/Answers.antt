use Rattle.ada_tree.specs.ProgramTree.{body_item_tree}
use Rattle.conformance.proofs.Tabled.{places_next}
use Rattle.conformance.proofs.places.last_places.Goals as goal

pub loop-place-preserved : goal.loop-place-preserved
loop-place-preserved c =
    places_next body_item_tree c.args.items.now c.loop-place.place c.index-items-place.result c.loop-place.places.table.entries c.put_item.new.self.table.entries
    c.loop-place-test.true c.index-items-place.is c.loop-place.invariant c.in_ok-put_item.ensures
