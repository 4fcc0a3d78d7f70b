-- No operator gives an array or a record that could be moved.
use Rattle.std.proofs.Common.{◌≡◌, List, [], ◌∷◌, Bool, true, false, ◌&&◌, refl, ap, ◌∙◌}
use Rattle.ada_tree.specs.declared.expression.BinaryOperator.{BinaryOperator}
use Rattle.ada_tree.specs.declared.expression.Operand.{Operand}
use Rattle.ada_tree.specs.ExpressionTree as tree
use Rattle.ada_tree.specs.ExpressionTree.{ExprTree, chain_tree, expr_tree}
use Rattle.expr_code.specs.declared.visible.Visible.{Visible}
use Rattle.part_code.specs.Moving.{is_moved}

-- no operator gives an array or a record
pub chain_unmoved : (v : Visible) (more : List Operand) (operator : BinaryOperator) (a b : ExprTree)
    → is_moved v (chain_tree (tree.Binary operator a b) more) ≡ false
chain_unmoved v [] operator a b = refl
chain_unmoved v (o ∷ more) operator a b = chain_unmoved v more o.operator (tree.Binary operator a b) (expr_tree o.value)

-- three tests, of which two hold, or the second one does not
pub all_true : (a b c : Bool) → a ≡ true → b ≡ true → (a && (b && c)) ≡ c
all_true a b c h k = ap (λ q. q && (b && c)) h ∙ ap (λ q. q && c) k

pub one_false : (a b c : Bool) → b ≡ false → (a && (b && c)) ≡ false
one_false true b c h = ap (λ q. q && c) h
one_false false b c h = refl
