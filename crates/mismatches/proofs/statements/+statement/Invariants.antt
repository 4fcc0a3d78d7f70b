use Rattle.std.proofs.Common.{◌≡◌, drop}
use Rattle.ada_tree.specs.StatementTree.{alternative_trees, elsif_trees, handler_trees, stmt_trees}
use Rattle.mismatches.specs.Conflicts.{noted}
use Rattle.mismatches.specs.StatementMismatches.{alternatives_mismatches, elsifs_mismatches, handlers_mismatches, stmts_mismatches}
use Rattle.mismatches.proofs.statements.+statement.Given as goal

abbrev pub invariant-alternatives_mismatches-loop-alternative : goal.invariant-alternatives_mismatches-loop-alternative
invariant-alternatives_mismatches-loop-alternative l =
    record {
      search : noted l.search (alternatives_mismatches l.fn.scope l.kind l.wanted (alternative_trees (drop l.alternative-index l.alternatives)))
          ≡ noted l.fn.search (alternatives_mismatches l.fn.scope l.kind l.wanted (alternative_trees l.alternatives));
      scope : l.scope ≡ l.fn.scope;
    }

abbrev pub invariant-elsifs_mismatches-loop-part : goal.invariant-elsifs_mismatches-loop-part
invariant-elsifs_mismatches-loop-part l =
    record {
      search : noted l.search (elsifs_mismatches l.fn.scope l.kind (elsif_trees (drop l.part-index l.parts)))
          ≡ noted l.fn.search (elsifs_mismatches l.fn.scope l.kind (elsif_trees l.parts));
      scope : l.scope ≡ l.fn.scope;
    }

abbrev pub invariant-handlers_mismatches-loop-handler : goal.invariant-handlers_mismatches-loop-handler
invariant-handlers_mismatches-loop-handler l =
    record {
      search : noted l.search (handlers_mismatches l.fn.scope l.kind (handler_trees (drop l.handler-index l.handlers)))
          ≡ noted l.fn.search (handlers_mismatches l.fn.scope l.kind (handler_trees l.handlers));
      scope : l.scope ≡ l.fn.scope;
    }

abbrev pub invariant-statements-loop-one : goal.invariant-statements-loop-one
invariant-statements-loop-one l =
    record {
      search : noted l.search (stmts_mismatches l.fn.scope l.kind (stmt_trees (drop l.one-index l.all)))
          ≡ noted l.fn.search (stmts_mismatches l.fn.scope l.kind (stmt_trees l.all));
      scope : l.scope ≡ l.fn.scope;
    }
