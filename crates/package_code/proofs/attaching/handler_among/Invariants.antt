use Rattle.std.proofs.Common.{◌≡◌, drop, map}
use Rattle.ada_tree.specs.StatementTree.{operation_tree}
use Rattle.package_code.specs.Handlers.{handler_told, handler_among}
use Rattle.package_code.proofs.attaching.handler_among.Given as goal

abbrev pub invariant-loop-operation : goal.invariant-loop-operation
invariant-loop-operation l =
    handler_told l.scope l.directory (handler_among l.scope l.object l.channel (map operation_tree (drop l.operation-index l.operations)))
    ≡ handler_told l.scope l.directory (handler_among l.scope l.object l.channel (map operation_tree l.operations))
