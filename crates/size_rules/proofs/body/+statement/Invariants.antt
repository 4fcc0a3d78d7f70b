use Rattle.std.proofs.Common.{◌≡◌, ◌++◌, drop}
use Rattle.ada_tree.specs.StatementTree.{alternative_trees, elsif_trees, handler_trees, stmt_trees}
use Rattle.size_rules.specs.BodySizes.{alternatives_things, elsifs_things, handlers_things, stmts_things}
use Rattle.size_rules.proofs.body.+statement.Given as goal

abbrev pub invariant-push_elsifs-loop-part : goal.invariant-push_elsifs-loop-part
invariant-push_elsifs-loop-part l =
    l.things.items ++ elsifs_things l.scope (elsif_trees (drop l.part-index l.all))
    ≡ l.fn.things.items ++ elsifs_things l.scope (elsif_trees l.all)

abbrev pub invariant-push_alternatives-loop-one : goal.invariant-push_alternatives-loop-one
invariant-push_alternatives-loop-one l =
    l.things.items ++ alternatives_things l.scope (alternative_trees (drop l.one-index l.all))
    ≡ l.fn.things.items ++ alternatives_things l.scope (alternative_trees l.all)

abbrev pub invariant-push_handlers-loop-one : goal.invariant-push_handlers-loop-one
invariant-push_handlers-loop-one l =
    l.things.items ++ handlers_things l.scope (handler_trees (drop l.one-index l.all))
    ≡ l.fn.things.items ++ handlers_things l.scope (handler_trees l.all)

abbrev pub invariant-push_statements-loop-one : goal.invariant-push_statements-loop-one
invariant-push_statements-loop-one l =
    l.things.items ++ stmts_things l.scope (stmt_trees (drop l.one-index l.all))
    ≡ l.fn.things.items ++ stmts_things l.scope (stmt_trees l.all)
