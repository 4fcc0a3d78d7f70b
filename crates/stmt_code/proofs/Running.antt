-- The code of a body up to its end: its declarations, the way out, if its statements return, and these.
use Rattle.std.proofs.Common.{◌≡◌, List, map, subst}
use Rattle.ada_tree.specs.declared.declaration.Declaration.{Declaration}
use Rattle.ada_tree.specs.declared.statement.Handler.{Handler}
use Rattle.ada_tree.specs.declared.statement.Stmt.{Stmt}
use Rattle.ada_tree.specs.StatementTree.{DeclarationTree, HandlerTrees, StmtTrees, declaration_tree, handler_trees, stmt_trees}

-- ---- the parts of a body, as they are handed on

pub body_parts : (Is : List DeclarationTree → StmtTrees → HandlerTrees → Type 0) (ds es : List Declaration) (xs ys : List Stmt) (hs gs : List Handler)
    → es ≡ ds → ys ≡ xs → gs ≡ hs → Is (map declaration_tree es) (stmt_trees ys) (handler_trees gs)
    → Is (map declaration_tree ds) (stmt_trees xs) (handler_trees hs)
body_parts Is ds es xs ys hs gs p q r h = subst (λ t. t) (λ j. Is (map declaration_tree (p j)) (stmt_trees (q j)) (handler_trees (r j))) h
