-- What code that was added makes of expressions: each form from its parts.
use Rattle.std.proofs.Common.{◌≡◌, ℕ, suc, ◌+◌, Some, Option, refl, sym, subst, arith}
use Rattle.ada_tree.specs.declared.expression.UnaryOperator.{UnaryOperator}
use Rattle.ada_tree.specs.declared.expression.UnaryOperator.TheVariants as unary
use Rattle.ada_tree.specs.declared.expression.BinaryOperator.{BinaryOperator}
use Rattle.ada_tree.specs.declared.expression.BinaryOperator.TheVariants as binary
use Rattle.image.specs.Sections.{Sections}
use Rattle.image.specs.declared.instruction.Operation.{Operation}
use Rattle.image.specs.declared.instruction.Operation.TheVariants as op
use Rattle.expr_code.specs.Views.{At}
use Rattle.expr_code.specs.OperatorCode.{binary_operation, unary_operation, Has}
use Rattle.expr_code.specs.Seeing.{Suits}
use Rattle.expr_code.specs.declared.visible.Visible.{Visible}
use Rattle.expr_code.proofs.Flowing.{Changes}

-- the instruction of an operator stands where it was added
pub has_added : (i : Sections) (place : ℕ) (o : Option Operation) (x : Operation) → o ≡ Some x → At i place x → Has i place o
has_added i place o x is at = subst (Has i place) (sym is) at

one_word : (v : Visible) (x y : Operation) (depth : ℕ) → Changes (Suits v) y (suc depth) (suc depth) → y ≡ x → Changes (Suits v) x (suc depth) (suc depth)
one_word v x y depth c e = subst (λ z. Changes (Suits v) z (suc depth) (suc depth)) e c

some_is : (x y : Operation) → Some y ≡ Some x → y ≡ x
some_is x y e = cc

pub unary_changes : (v : Visible) (o : UnaryOperator) (x : Operation) (depth : ℕ) → unary_operation o ≡ Some x → Changes (Suits v) x (suc depth) (suc depth)
unary_changes v unary.Plus x depth is = absurd cc
unary_changes v unary.Minus x depth is =
    one_word v x op.Negate depth (record { operands = refl; names = λ i s h. refl; takes = λ i s h. omega arith; leaves = λ i s h. omega arith; stays = refl; is_none = refl }) (some_is x op.Negate is)
unary_changes v unary.Abs x depth is =
    one_word v x op.Absolute depth (record { operands = refl; names = λ i s h. refl; takes = λ i s h. omega arith; leaves = λ i s h. omega arith; stays = refl; is_none = refl }) (some_is x op.Absolute is)
unary_changes v unary.Not x depth is =
    one_word v x op.Not depth (record { operands = refl; names = λ i s h. refl; takes = λ i s h. omega arith; leaves = λ i s h. omega arith; stays = refl; is_none = refl }) (some_is x op.Not is)

-- an operator of two words leaves one
two_words : (v : Visible) (x y : Operation) (depth : ℕ) → Changes (Suits v) y (depth + 1 + 1) (depth + 1) → y ≡ x → Changes (Suits v) x (depth + 1 + 1) (depth + 1)
two_words v x y depth c e = subst (λ z. Changes (Suits v) z (depth + 1 + 1) (depth + 1)) e c

pub binary_changes : (v : Visible) (o : BinaryOperator) (x : Operation) (depth : ℕ) → binary_operation o ≡ Some x → Changes (Suits v) x (depth + 1 + 1) (depth + 1)
binary_changes v binary.Add x depth is =
    two_words v x op.Add depth (record { operands = refl; names = λ i s h. refl; takes = λ i s h. omega arith; leaves = λ i s h. omega arith; stays = refl; is_none = refl }) (some_is x op.Add is)
binary_changes v binary.Subtract x depth is =
    two_words v x op.Subtract depth (record { operands = refl; names = λ i s h. refl; takes = λ i s h. omega arith; leaves = λ i s h. omega arith; stays = refl; is_none = refl }) (some_is x op.Subtract is)
binary_changes v binary.Multiply x depth is =
    two_words v x op.Multiply depth (record { operands = refl; names = λ i s h. refl; takes = λ i s h. omega arith; leaves = λ i s h. omega arith; stays = refl; is_none = refl }) (some_is x op.Multiply is)
binary_changes v binary.Divide x depth is =
    two_words v x op.Divide depth (record { operands = refl; names = λ i s h. refl; takes = λ i s h. omega arith; leaves = λ i s h. omega arith; stays = refl; is_none = refl }) (some_is x op.Divide is)
binary_changes v binary.Mod x depth is =
    two_words v x op.Modulo depth (record { operands = refl; names = λ i s h. refl; takes = λ i s h. omega arith; leaves = λ i s h. omega arith; stays = refl; is_none = refl }) (some_is x op.Modulo is)
binary_changes v binary.Rem x depth is =
    two_words v x op.Remainder depth (record { operands = refl; names = λ i s h. refl; takes = λ i s h. omega arith; leaves = λ i s h. omega arith; stays = refl; is_none = refl }) (some_is x op.Remainder is)
binary_changes v binary.Equal x depth is =
    two_words v x op.Equal depth (record { operands = refl; names = λ i s h. refl; takes = λ i s h. omega arith; leaves = λ i s h. omega arith; stays = refl; is_none = refl }) (some_is x op.Equal is)
binary_changes v binary.NotEqual x depth is =
    two_words v x op.NotEqual depth (record { operands = refl; names = λ i s h. refl; takes = λ i s h. omega arith; leaves = λ i s h. omega arith; stays = refl; is_none = refl }) (some_is x op.NotEqual is)
binary_changes v binary.Less x depth is =
    two_words v x op.Less depth (record { operands = refl; names = λ i s h. refl; takes = λ i s h. omega arith; leaves = λ i s h. omega arith; stays = refl; is_none = refl }) (some_is x op.Less is)
binary_changes v binary.LessOrEqual x depth is =
    two_words v x op.LessOrEqual depth (record { operands = refl; names = λ i s h. refl; takes = λ i s h. omega arith; leaves = λ i s h. omega arith; stays = refl; is_none = refl }) (some_is x op.LessOrEqual is)
binary_changes v binary.Greater x depth is =
    two_words v x op.Greater depth (record { operands = refl; names = λ i s h. refl; takes = λ i s h. omega arith; leaves = λ i s h. omega arith; stays = refl; is_none = refl }) (some_is x op.Greater is)
binary_changes v binary.GreaterOrEqual x depth is =
    two_words v x op.GreaterOrEqual depth (record { operands = refl; names = λ i s h. refl; takes = λ i s h. omega arith; leaves = λ i s h. omega arith; stays = refl; is_none = refl }) (some_is x op.GreaterOrEqual is)
binary_changes v binary.And x depth is =
    two_words v x op.And depth (record { operands = refl; names = λ i s h. refl; takes = λ i s h. omega arith; leaves = λ i s h. omega arith; stays = refl; is_none = refl }) (some_is x op.And is)
binary_changes v binary.Or x depth is =
    two_words v x op.Or depth (record { operands = refl; names = λ i s h. refl; takes = λ i s h. omega arith; leaves = λ i s h. omega arith; stays = refl; is_none = refl }) (some_is x op.Or is)
binary_changes v binary.Xor x depth is =
    two_words v x op.ExclusiveOr depth (record { operands = refl; names = λ i s h. refl; takes = λ i s h. omega arith; leaves = λ i s h. omega arith; stays = refl; is_none = refl }) (some_is x op.ExclusiveOr is)
binary_changes v o x depth is = absurd cc
