use Rattle.std.proofs.Common.{◌≡◌, ◌++◌, drop, map}
use Rattle.ada_tree.specs.StatementTree.{operation_tree}
use Rattle.size_rules.specs.PackageSizes.{operations_things}
use Rattle.size_rules.proofs.declarations.push_operations.Given as goal

abbrev pub invariant-loop-operation : goal.invariant-loop-operation
invariant-loop-operation l =
    l.things.items ++ operations_things (map operation_tree (drop l.operation-index l.operations))
    ≡ l.fn.things.items ++ operations_things (map operation_tree l.operations)
