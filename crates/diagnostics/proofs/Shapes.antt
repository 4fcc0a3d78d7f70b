-- What is found of a statement with several parts.
use Rattle.std.proofs.Common.{◌≡◌, ◌∙◌, ℕ, List, ap, sym}
use Rattle.ada_tree.specs.StatementTree.{StmtTree}
use Rattle.diagnostics.specs.counterparts.Nested.{Found, within_stmt}

-- the tree is of this shape, of which what is found is known
pub of_shape : (name : List ℕ) (place : ℕ) (tree shape : StmtTree) (found : Found)
    → tree ≡ shape → found ≡ within_stmt name place shape → found ≡ within_stmt name place tree
of_shape name place tree shape found is known = known ∙ ap (within_stmt name place) (sym is)
