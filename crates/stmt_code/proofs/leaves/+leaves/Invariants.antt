use Rattle.std.proofs.Common.{◌≡◌, drop}
use Rattle.ada_tree.specs.StatementTree.{alternative_trees, elsif_trees, handler_trees, stmt_trees}
use Rattle.stmt_code.specs.Leaves.{alternatives_leave, any_leave, elsifs_leave, handlers_leave}
use Rattle.stmt_code.proofs.leaves.+leaves.Given as goal

abbrev pub invariant-elsifs_leave-loop-part : goal.invariant-elsifs_leave-loop-part
invariant-elsifs_leave-loop-part l = elsifs_leave (elsif_trees (drop l.part-index l.all)) l.way ≡ elsifs_leave (elsif_trees l.all) l.way

abbrev pub invariant-alternatives_leave-loop-one : goal.invariant-alternatives_leave-loop-one
invariant-alternatives_leave-loop-one l = alternatives_leave (alternative_trees (drop l.one-index l.all)) l.way ≡ alternatives_leave (alternative_trees l.all) l.way

abbrev pub invariant-handlers_leave-loop-one : goal.invariant-handlers_leave-loop-one
invariant-handlers_leave-loop-one l = handlers_leave (handler_trees (drop l.one-index l.all)) l.way ≡ handlers_leave (handler_trees l.all) l.way

abbrev pub invariant-any_leave-loop-one : goal.invariant-any_leave-loop-one
invariant-any_leave-loop-one l = any_leave (stmt_trees (drop l.one-index l.all)) l.way ≡ any_leave (stmt_trees l.all) l.way
