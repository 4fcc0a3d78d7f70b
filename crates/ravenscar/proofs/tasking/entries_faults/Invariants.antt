use Rattle.std.proofs.Common.{◌≡◌, drop, false, map}
use Rattle.ada_tree.specs.StatementTree.{operation_tree}
use Rattle.expr_rules.specs.Findings.{noted}
use Rattle.ravenscar.specs.TaskingRules.{entries_faults}
use Rattle.ravenscar.proofs.tasking.entries_faults.Given as goal

abbrev pub invariant-loop-operation : goal.invariant-loop-operation
invariant-loop-operation l =
    noted l.found (entries_faults l.has_entry (map operation_tree (drop l.operation-index l.operations)))
    ≡ noted l.fn.found (entries_faults false (map operation_tree l.operations))
