use Rattle.std.proofs.Common.{◌≡◌, drop, map}
use Rattle.ada_tree.specs.ExpressionTree.{expr_tree}
use Rattle.expr_rules.specs.Findings.{noted}
use Rattle.stmt_rules.specs.CaseRules.{values_faults}
use Rattle.stmt_rules.specs.Choosing.{once_after}
use Rattle.stmt_rules.proofs.case.values_faults.Given as goal

abbrev pub invariant-loop-e : goal.invariant-loop-e
invariant-loop-e l =
    record {
      found : noted l.found (values_faults l.scope l.wanted l.chosen.keys (map expr_tree (drop l.e-index l.values)))
          ≡ noted l.fn.found (values_faults l.scope l.wanted l.fn.chosen.keys (map expr_tree l.values));
      chosen : once_after l.scope l.wanted l.chosen.keys (map expr_tree (drop l.e-index l.values))
          ≡ once_after l.scope l.wanted l.fn.chosen.keys (map expr_tree l.values);
    }
