-- Wrong trees of operations: each has an operand that the grammar does not take, so no tokens at all spell it.
use Rattle.std.proofs.Common.{◌≡◌, refl, sym, ◌∙◌}
use Rattle.std.specs.Prelude.{false, codes, pos}
use Rattle.std.proofs.lemmas.Bool.{false≢true}
use Rattle.ada_tree.specs.declared.expression.UnaryOperator.TheVariants as unary
use Rattle.ada_tree.specs.declared.expression.BinaryOperator.{BinaryOperator}
use Rattle.ada_tree.specs.declared.expression.BinaryOperator.TheVariants as binary
use Rattle.ada_tree.specs.ExpressionTree.{ExprTree, Number, Named, Unary, Binary, NoSelectors}
use Rattle.ada_tree.specs.Language.{Tokens, Limit}
use Rattle.ada_tree.specs.ExpressionGrammar.{expression, stands_for, made_by, left_operand, right_operand, production}

abbrev a : ExprTree
a = Named (record { name = codes "A"; place = 0 }) NoSelectors

abbrev three : ExprTree
three = Number (pos 3) 1

-- no tokens spell the tree
abbrev IsUnspelled : ExprTree → Type 0
IsUnspelled e = (limit : Limit) (ts : Tokens) → expression limit e ts → ⊥

left_refused : (o : BinaryOperator) (left right : ExprTree) → stands_for (made_by left) (left_operand (production o)) ≡ false → IsUnspelled (Binary o left right)
left_refused o left right unfit limit ts e = false≢true (sym unfit ∙ e.1.3.0)

right_refused : (o : BinaryOperator) (left right : ExprTree) → stands_for (made_by right) (right_operand (production o)) ≡ false → IsUnspelled (Binary o left right)
right_refused o left right unfit limit ts e = false≢true (sym unfit ∙ e.1.4.4.0)

-- `-A mod 3` is the negation of a remainder, and not a remainder of a negation
negation_in_mod : IsUnspelled (Binary binary.Mod (Unary unary.Minus 0 a) three)
negation_in_mod = left_refused binary.Mod (Unary unary.Minus 0 a) three refl

-- chains group to the left: `A - A + 3` is no difference with a sum on its right, nor is `A * A / 3` a product with a quotient there
sum_on_the_right : IsUnspelled (Binary binary.Subtract a (Binary binary.Add a three))
sum_on_the_right = right_refused binary.Subtract a (Binary binary.Add a three) refl

quotient_on_the_right : IsUnspelled (Binary binary.Multiply a (Binary binary.Divide a three))
quotient_on_the_right = right_refused binary.Multiply a (Binary binary.Divide a three) refl

-- relations do not chain
relation_of_a_relation : IsUnspelled (Binary binary.Equal (Binary binary.Equal a a) three)
relation_of_a_relation = left_refused binary.Equal (Binary binary.Equal a a) three refl

-- operators of logic do not mix without parentheses
and_with_or : IsUnspelled (Binary binary.Or (Binary binary.And a a) a)
and_with_or = left_refused binary.Or (Binary binary.And a a) a refl

and_with_and_then : IsUnspelled (Binary binary.AndThen (Binary binary.And a a) a)
and_with_and_then = left_refused binary.AndThen (Binary binary.And a a) a refl

-- a sum is no factor of a product without parentheses
sum_in_a_product : IsUnspelled (Binary binary.Multiply (Binary binary.Add a a) three)
sum_in_a_product = left_refused binary.Multiply (Binary binary.Add a a) three refl

-- what stands behind `not` is a primary, and behind a sign a term
not_of_not : IsUnspelled (Unary unary.Not 0 (Unary unary.Not 1 a))
not_of_not limit ts e = false≢true e.1.4.0

minus_of_minus : IsUnspelled (Unary unary.Minus 0 (Unary unary.Minus 1 a))
minus_of_minus limit ts e = false≢true e.1.4.0
