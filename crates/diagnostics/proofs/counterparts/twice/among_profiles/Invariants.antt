use Rattle.std.proofs.Common.{◌≡◌, drop, map}
use Rattle.ada_tree.specs.StatementTree.{operation_tree}
use Rattle.diagnostics.specs.counterparts.Twice.{among_profiles}
use Rattle.diagnostics.proofs.counterparts.twice.among_profiles.Given as goal

-- what is left decides
abbrev pub invariant-loop-operation : goal.invariant-loop-operation
invariant-loop-operation l =
    among_profiles l.fn.name l.fn.place (map operation_tree (drop l.operation-index l.fn.operations))
    ≡ among_profiles l.fn.name l.fn.place (map operation_tree l.fn.operations)
