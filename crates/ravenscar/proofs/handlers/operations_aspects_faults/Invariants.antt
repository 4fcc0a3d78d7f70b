use Rattle.std.proofs.Common.{◌≡◌, drop, map}
use Rattle.ada_tree.specs.StatementTree.{operation_tree}
use Rattle.expr_rules.specs.Findings.{noted}
use Rattle.ravenscar.specs.HandlerRules.{operations_aspects_faults, taken_by_all}
use Rattle.ravenscar.proofs.handlers.operations_aspects_faults.Given as goal

abbrev pub invariant-loop-operation : goal.invariant-loop-operation
invariant-loop-operation l =
    record {
      found :
          noted l.found (operations_aspects_faults l.scope l.taken (map operation_tree (drop l.operation-index l.operations)))
          ≡ noted l.fn.found (operations_aspects_faults l.scope l.fn.taken (map operation_tree l.operations));
      taken : taken_by_all l.scope l.taken (map operation_tree (drop l.operation-index l.operations)) ≡ taken_by_all l.scope l.fn.taken (map operation_tree l.operations);
    }
