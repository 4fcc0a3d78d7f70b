use Rattle.std.proofs.Common.{◌≡◌, drop, map}
use Rattle.ada_tree.specs.ProgramTree.{item_tree}
use Rattle.package_code.specs.Handlers.{handler_told, handler_of_items}
use Rattle.package_code.proofs.attaching.handler_of_items.Given as goal

abbrev pub invariant-loop-item : goal.invariant-loop-item
invariant-loop-item l =
    handler_told l.scope l.directory (handler_of_items l.scope l.channel (map item_tree (drop l.item-index l.items)))
    ≡ handler_told l.scope l.directory (handler_of_items l.scope l.channel (map item_tree l.items))
