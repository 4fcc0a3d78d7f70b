use Rattle.std.proofs.Common.{◌≡◌, drop, map}
use Rattle.compiler.specs.ada_tree.specs.StatementTree.{operation_tree}
use Rattle.adarun.specs.Naming.{entry_among}
use Rattle.adarun.proofs.naming.entry_name.Given as goal

-- what is left decides
abbrev pub invariant-loop-operation : goal.invariant-loop-operation
invariant-loop-operation l =
    entry_among (map operation_tree (drop l.operation-index l.operations)) ≡ entry_among (map operation_tree l.fn.operations)
