use Rattle.std.proofs.Common.{◌≡◌, drop}
use Rattle.ada_tree.specs.StatementTree.{alternative_trees, elsif_trees, handler_trees, stmt_trees}
use Rattle.diagnostics.specs.counterparts.Nested as nested
use Rattle.diagnostics.proofs.counterparts.nested.+statement.Given as goal

-- what is left decides

abbrev pub invariant-within_elsifs-loop-part : goal.invariant-within_elsifs-loop-part
invariant-within_elsifs-loop-part l =
    nested.within_elsifs l.name l.place (elsif_trees (drop l.part-index l.all))
    ≡ nested.within_elsifs l.name l.place (elsif_trees l.all)

abbrev pub invariant-within_alternatives-loop-one : goal.invariant-within_alternatives-loop-one
invariant-within_alternatives-loop-one l =
    nested.within_alternatives l.name l.place (alternative_trees (drop l.one-index l.all)) ≡ nested.within_alternatives l.name l.place (alternative_trees l.all)

abbrev pub invariant-within_handlers-loop-one : goal.invariant-within_handlers-loop-one
invariant-within_handlers-loop-one l =
    nested.within_handlers l.name l.place (handler_trees (drop l.one-index l.all))
    ≡ nested.within_handlers l.name l.place (handler_trees l.all)

abbrev pub invariant-within_statements-loop-one : goal.invariant-within_statements-loop-one
invariant-within_statements-loop-one l =
    nested.within_stmts l.name l.place (stmt_trees (drop l.one-index l.all))
    ≡ nested.within_stmts l.name l.place (stmt_trees l.all)
