use Rattle.std.proofs.Common.{[], map, refl, subst}
use Rattle.ada_tree.specs.ProgramTree.{item_tree, program_tree}
use Rattle.step_simulation.specs.part_code.proofs.Lists.{take_all}
use Rattle.package_code.specs.Tasks.{AddsTasks}
use Rattle.package_code.proofs.TasksAdded.{adds_none, item_next, known_item}
use Rattle.package_code.proofs.tasks.add_items.Goals as goal

pub loop-item-init : goal.loop-item-init
loop-item-init c = adds_none (program_tree c.args.accepted.now) c.args.tasks.now.items [] refl

pub add_item-requires-clause-known : goal.add_item-requires-clause-known
add_item-requires-clause-known c =
    known_item (program_tree c.args.accepted.now) c.args.items.now c.loop-item.item-index c.item-item.result c.loop-item-test.true c.item-item.is c.requires.known

pub loop-item-preserved : goal.loop-item-preserved
loop-item-preserved c =
    item_next (program_tree c.args.accepted.now) c.args.tasks.now.items c.loop-item.tasks.items c.add_item.new.tasks.items c.args.items.now
    c.loop-item.item-index c.item-item.result c.loop-item-test.true c.item-item.is c.loop-item.invariant c.in_ok-add_item.ensures.adds

pub returns-clause-adds : goal.returns-clause-adds
returns-clause-adds c =
    subst (λ l. AddsTasks (program_tree c.args.accepted.now) c.args.tasks.now.items (map item_tree l) c.loop-item.tasks.items)
    (take_all c.args.items.now c.loop-item.item-index c.loop-item-test.false) c.loop-item.invariant
