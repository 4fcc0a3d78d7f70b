-- What is pushed piece by piece, and what it is of a statement's tree.
use Rattle.std.proofs.Common.{◌≡◌, List, ◌++◌, sym, ap, ◌∙◌}
use Rattle.std.proofs.lemmas.List.{append_assoc}
use Rattle.ada_tree.specs.StatementTree.{StmtTree}
use Rattle.types.specs.Scopes.{Scope}
use Rattle.size_rules.specs.Limits.{Things}
use Rattle.size_rules.specs.BodySizes.{stmt_things}

pub three : {X : Type 0} (old x y z a b c : List X) → x ≡ old ++ a → y ≡ x ++ b → z ≡ y ++ c → z ≡ old ++ (a ++ b ++ c)
three old x y z a b c hx hy hz =
    hz ∙ (λ j. hy j ++ c) ∙ (λ j. (hx j ++ b) ++ c) ∙ (λ j. append_assoc old a b j ++ c) ∙ append_assoc old (a ++ b) c

-- the tree is of this shape, of which these things are known
pub of_shape : (s : Scope) (old new things : Things) (tree shape : StmtTree)
    → tree ≡ shape
    → things ≡ stmt_things s shape
    → new ≡ old ++ things
    → new ≡ old ++ stmt_things s tree
of_shape s old new things tree shape is known pushed = pushed ∙ ap (λ l. old ++ l) (known ∙ sym (ap (stmt_things s) is))
