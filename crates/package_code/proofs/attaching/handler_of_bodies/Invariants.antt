use Rattle.std.proofs.Common.{◌≡◌, drop, map}
use Rattle.ada_tree.specs.ProgramTree.{body_item_tree}
use Rattle.package_code.specs.Handlers.{handler_told, handler_of_bodies}
use Rattle.package_code.proofs.attaching.handler_of_bodies.Given as goal

abbrev pub invariant-loop-item : goal.invariant-loop-item
invariant-loop-item l =
    handler_told l.scope l.directory (handler_of_bodies l.scope l.channel (map body_item_tree (drop l.item-index l.items)))
    ≡ handler_told l.scope l.directory (handler_of_bodies l.scope l.channel (map body_item_tree l.items))
