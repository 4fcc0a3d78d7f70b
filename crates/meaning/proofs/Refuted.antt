-- Wrong meanings, each refused by an expression or a program for which it gives what the manual does not.
use Rattle.std.proofs.Common.{◌≡◌, [], ℤ, refl, sym, ap, ◌∙◌}
use Rattle.std.specs.Prelude.{pos, negsuc}
use Rattle.ada_tree.specs.declared.expression.BinaryOperator.TheVariants as binary
use Rattle.ada_tree.specs.ExpressionTree.{ExprTree, Number, Named, Parenthesized, Conditional, Unary, Binary}
use Rattle.types.specs.Values as values
use Rattle.types.specs.Evaluations.{Val, Gives, Raises, Meaningless, and_then}
use Rattle.types.specs.Operators.{unary_value, binary_value}
use Rattle.types.specs.Statics.{static_place}
use Rattle.types.specs.Evaluating.{val}
use Rattle.meaning.proofs.Examples.{num, two}

-- at a place where there is nothing
abbrev Evaluation : Type 0
Evaluation = Val values.Value

abbrev value : ExprTree → Evaluation
value e = val (static_place []) e

abbrev number_in : Evaluation → ℤ
number_in (Gives (values.Number z)) = z
number_in e = pos 0

-- The operands swapped: `7 - 10` would be 3

abbrev swapped : ExprTree → Evaluation
swapped (Number z place) = Gives (values.Number z)
swapped (Parenthesized place e) = swapped e
swapped (Unary operator place e) = and_then (swapped e) (unary_value operator)
swapped (Binary operator a b) = and_then (swapped a) (λ v. and_then (swapped b) (λ w. binary_value operator w v))
swapped (Named name s) = Meaningless
swapped (Conditional place condition v elsifs else_value) = Meaningless

abbrev difference : ExprTree
difference = two binary.Subtract (num 7) (num 10)

difference_value : value difference ≡ Gives (values.Number (negsuc 2))
difference_value = refl

difference_swapped : swapped difference ≡ Gives (values.Number (pos 3))
difference_swapped = refl

swapped_refuted : swapped difference ≡ value difference → ⊥
swapped_refuted e = let same : pos 3 ≡ negsuc 2 = ap number_in (sym difference_swapped ∙ (e ∙ difference_value)) in cc

-- Results that wrap around: `9223372036854775807 + 1` raises Constraint_Error, and nothing else

too_much : value (two binary.Add (num 9223372036854775807) (num 1)) ≡ Raises 1
too_much = refl

wrapped_refuted : (z : ℤ) → value (two binary.Add (num 9223372036854775807) (num 1)) ≡ Gives (values.Number z) → ⊥
wrapped_refuted z e = let same : Raises 1 ≡ Gives (values.Number z) = sym too_much ∙ e in cc
