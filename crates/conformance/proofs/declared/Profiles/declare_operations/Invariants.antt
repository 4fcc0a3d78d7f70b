use Rattle.std.proofs.Common.{map, take}
use Rattle.std.specs.List.{list_any}
use Rattle.ada_tree.specs.StatementTree.{operation_tree}
use Rattle.conformance.specs.Tables.{Declares, declares_unlike_operation}
use Rattle.conformance.proofs.declared.Profiles.declare_operations.Given as goal

abbrev pub invariant-loop-operation : goal.invariant-loop-operation
invariant-loop-operation l =
    Declares l.fn.self.table.entries l.self.table.entries (λ k p. list_any (declares_unlike_operation k p l.object) (map operation_tree (take l.operation-index l.operations)))
