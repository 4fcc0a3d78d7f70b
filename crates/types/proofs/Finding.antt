-- What is found of operations, chains of operators and names, by their parts.
use Rattle.std.proofs.Common.{◌≡◌, List, [], ◌∷◌, refl, ap, ◌∙◌}
use Rattle.ada_tree.specs.declared.expression.BinaryOperator.{BinaryOperator}
use Rattle.ada_tree.specs.declared.expression.Operand.{Operand}
use Rattle.ada_tree.specs.ExpressionTree.{ExprTree, Binary, chain_tree, expr_tree}
use Rattle.types.specs.declared.statics.StaticForm.{StaticForm}
use Rattle.types.specs.declared.statics.StaticForm.TheVariants.{Static, NotStatic, Doubtful}
use Rattle.types.specs.Scopes.{Scope}
use Rattle.types.specs.Values.{Value}
use Rattle.types.specs.Evaluations.{Val}
use Rattle.types.specs.Statics.{both, start_of, static_form, static_value}
use Rattle.types.specs.Knowing.{found, found_by, found_after, combined, operation_value}

combined_by : (operator : BinaryOperator) (f g : StaticForm) (a b : Val Value) → found_by (both f g) (operation_value operator a b) ≡ combined operator (found_by f a) (found_by g b)
combined_by operator Static Static a b = refl
combined_by operator Static NotStatic a b = refl
combined_by operator Static Doubtful a b = refl
combined_by operator NotStatic g a b = refl
combined_by operator Doubtful Static a b = refl
combined_by operator Doubtful NotStatic a b = refl
combined_by operator Doubtful Doubtful a b = refl

pub found_binary : (s : Scope) (operator : BinaryOperator) (a b : ExprTree) → found s (Binary operator a b) ≡ combined operator (found s a) (found s b)
found_binary s operator a b = combined_by operator (static_form s a) (static_form s b) (static_value s a) (static_value s b)

pub found_chain : (s : Scope) (left : ExprTree) (operands : List Operand) → found s (chain_tree left operands) ≡ found_after s (found s left) operands
found_chain s left [] = refl
found_chain s left (o ∷ rest) =
    found_chain s (Binary o.operator left (expr_tree o.value)) rest ∙ ap (λ x. found_after s x rest) (found_binary s o.operator left (expr_tree o.value))

-- a chain begins where its first operand begins
pub chain_start : (left : ExprTree) (operands : List Operand) → start_of (chain_tree left operands) ≡ start_of left
chain_start left [] = refl
chain_start left (o ∷ rest) = chain_start (Binary o.operator left (expr_tree o.value)) rest
