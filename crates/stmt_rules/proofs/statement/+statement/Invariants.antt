use Rattle.std.proofs.Common.{◌≡◌, drop, []}
use Rattle.ada_tree.specs.StatementTree.{alternative_trees, elsif_trees, handler_trees, stmt_trees}
use Rattle.expr_rules.specs.Findings.{noted}
use Rattle.stmt_rules.specs.StatementRules.{alternatives_faults, elsifs_faults, handlers_faults, more_handlers_faults, stmts_faults}
use Rattle.stmt_rules.proofs.statement.+statement.Given as goal

abbrev pub invariant-alternatives-loop-index : goal.invariant-alternatives-loop-index
invariant-alternatives-loop-index l =
    record {
      found : noted l.found (alternatives_faults l.fn.scope l.around l.wanted l.chosen.keys (alternative_trees (drop l.index l.all)))
          ≡ noted l.fn.found (alternatives_faults l.fn.scope l.around l.wanted [] (alternative_trees l.all));
      scope : l.scope ≡ l.fn.scope;
    }

abbrev pub invariant-elsif_parts-loop-part : goal.invariant-elsif_parts-loop-part
invariant-elsif_parts-loop-part l =
    record {
      found : noted l.found (elsifs_faults l.fn.scope l.around (elsif_trees (drop l.part-index l.all)))
          ≡ noted l.fn.found (elsifs_faults l.fn.scope l.around (elsif_trees l.all));
      scope : l.scope ≡ l.fn.scope;
    }

abbrev pub invariant-handlers-loop-index : goal.invariant-handlers-loop-index
invariant-handlers-loop-index l =
    record {
      found : noted l.found (more_handlers_faults l.fn.scope l.around l.named (handler_trees (drop l.index l.all)))
          ≡ noted l.fn.found (handlers_faults l.fn.scope l.around (handler_trees l.all));
      scope : l.scope ≡ l.fn.scope;
    }

abbrev pub invariant-statements-loop-one : goal.invariant-statements-loop-one
invariant-statements-loop-one l =
    record {
      found : noted l.found (stmts_faults l.fn.scope l.around (stmt_trees (drop l.one-index l.all)))
          ≡ noted l.fn.found (stmts_faults l.fn.scope l.around (stmt_trees l.all));
      scope : l.scope ≡ l.fn.scope;
    }
