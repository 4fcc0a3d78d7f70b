use Rattle.ada_tree.specs.ProgramTree.{item_tree}
use Rattle.conformance.specs.Tables.{declares_unlike}
use Rattle.conformance.proofs.Alike.{declares_next}
use Rattle.conformance.proofs.declared.Profiles.declare_items.Goals as goal

pub loop-item-preserved : goal.loop-item-preserved
loop-item-preserved c =
    declares_next item_tree declares_unlike c.args.items.now c.loop-item.item-index c.item-item.result
    c.args.self.now.table.entries c.loop-item.self.table.entries c.declare_item.new.self.table.entries
    c.loop-item-test.true c.item-item.is c.loop-item.invariant c.in_ok-declare_item.ensures
