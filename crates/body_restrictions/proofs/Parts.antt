-- What is found of statements that have several parts, by the law of joined lists.
use Rattle.std.proofs.Common.{◌≡◌, ◌++◌, sym, ap, ◌∙◌}
use Rattle.ada_tree.specs.StatementTree.{StmtTree}
use Rattle.expr_rules.specs.Faults.{Faults}
use Rattle.expr_rules.specs.Findings.{Findings, NotedByParts, noted}
use Rattle.body_restrictions.specs.BodyRules.{stmt_faults}

pub three : NotedByParts → (f g h k : Findings) (a b c : Faults) → g ≡ noted f a → h ≡ noted g b → k ≡ noted h c → k ≡ noted f (a ++ b ++ c)
three parts f g h k a b c hg hh hk =
    hk ∙ ap (λ x. noted x c) (hh ∙ ap (λ x. noted x b) hg ∙ sym (parts f a b)) ∙ sym (parts f (a ++ b) c)

-- the tree is of this shape, of which it is known what is found
pub of_shape : (tree shape : StmtTree) (before found : Findings) → tree ≡ shape → found ≡ noted before (stmt_faults shape) → found ≡ noted before (stmt_faults tree)
of_shape tree shape before found is known = known ∙ ap (λ s. noted before (stmt_faults s)) (sym is)
