use Rattle.std.proofs.Common.{◌≡◌, drop}
use Rattle.ada_tree.specs.StatementTree.{alternative_trees, elsif_trees, handler_trees, stmt_trees}
use Rattle.expr_rules.specs.Findings.{noted}
use Rattle.body_restrictions.specs.BodyRules.{alternatives_faults, elsifs_faults, handlers_faults, stmts_faults}
use Rattle.body_restrictions.proofs.bodies.+statement.Given as goal

abbrev pub invariant-elsifs_faults-loop-part : goal.invariant-elsifs_faults-loop-part
invariant-elsifs_faults-loop-part l = noted l.found (elsifs_faults (elsif_trees (drop l.part-index l.all))) ≡ noted l.fn.found (elsifs_faults (elsif_trees l.all))

abbrev pub invariant-alternatives_faults-loop-one : goal.invariant-alternatives_faults-loop-one
invariant-alternatives_faults-loop-one l =
    noted l.found (alternatives_faults (alternative_trees (drop l.one-index l.all))) ≡ noted l.fn.found (alternatives_faults (alternative_trees l.all))

abbrev pub invariant-handlers_faults-loop-one : goal.invariant-handlers_faults-loop-one
invariant-handlers_faults-loop-one l = noted l.found (handlers_faults (handler_trees (drop l.one-index l.all))) ≡ noted l.fn.found (handlers_faults (handler_trees l.all))

abbrev pub invariant-statements_faults-loop-one : goal.invariant-statements_faults-loop-one
invariant-statements_faults-loop-one l = noted l.found (stmts_faults (stmt_trees (drop l.one-index l.all))) ≡ noted l.fn.found (stmts_faults (stmt_trees l.all))
