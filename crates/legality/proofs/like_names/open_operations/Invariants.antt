use Rattle.std.proofs.Common.{◌≡◌, drop, map}
use Rattle.ada_tree.specs.StatementTree.{operation_tree}
use Rattle.declaration_rules.specs.ProtectedRules.{operation_bytes}
use Rattle.legality.specs.OpenParts.{extended_by}
use Rattle.legality.proofs.like_names.open_operations.Given as goal

abbrev pub invariant-loop-operation : goal.invariant-loop-operation
invariant-loop-operation l =
    extended_by operation_bytes l.names (map operation_tree (drop l.operation-index l.operations)) l.end
    ≡ extended_by operation_bytes l.fn.names (map operation_tree l.operations) l.end
