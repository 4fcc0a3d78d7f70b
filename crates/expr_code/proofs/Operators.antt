-- The words that the instructions of operators compute are those of their values.
use Rattle.std.proofs.Common.{◌≡◌, ℤ, [], ◌∷◌, Ok, Err, Bool, true, false, not, ◌&&◌, refl, ap, ◌∙◌, rules}
use Rattle.std.specs.Prelude.{int_le, int_lt}
use Rattle.base.specs.Arithmetic.{Checked, sum_of, difference_of, product_of, quotient_of, remainder_of, modulus_of, negation_of, absolute_of}
use Rattle.ada_tree.specs.declared.expression.UnaryOperator.{UnaryOperator}
use Rattle.ada_tree.specs.declared.expression.UnaryOperator.TheVariants as unary
use Rattle.ada_tree.specs.declared.expression.BinaryOperator.{BinaryOperator}
use Rattle.ada_tree.specs.declared.expression.BinaryOperator.TheVariants as binary
use Rattle.image.specs.Scalars as scalars
use Rattle.types.specs.Values.{Number, Truth}
use Rattle.types.specs.Shapes.{word_of}
use Rattle.types.specs.Evaluations.{Gives, computed}
use Rattle.types.specs.Operators.{binary_value, unary_value}
use Rattle.expr_code.specs.OperatorCode.{IsWordOf, binary_words, unary_words}

-- two tables of truth values agree
same_word : (b : Bool) → word_of b ≡ scalars.word_of b
same_word true = refl
same_word false = refl

truth_word : (b : Bool) → IsWordOf (Gives (Truth b)) (Ok (scalars.word_of b))
truth_word b = ap (λ w. w ∷ []) (same_word b)

-- a number that is computed
pub number_word : (c : Checked) → IsWordOf (computed c) c
number_word (Ok z) = refl
number_word (Err x) = refl

below : (x y : ℤ) → not (int_le y x) ≡ int_lt x y
below x y = search rules

-- the word that an operator of two numbers computes
pub numbers_word : (o : BinaryOperator) (x y : ℤ) → IsWordOf (binary_value o (Number x) (Number y)) (binary_words o x y)
numbers_word binary.Add x y = number_word (sum_of x y)
numbers_word binary.Subtract x y = number_word (difference_of x y)
numbers_word binary.Multiply x y = number_word (product_of x y)
numbers_word binary.Divide x y = number_word (quotient_of x y)
numbers_word binary.Mod x y = number_word (modulus_of x y)
numbers_word binary.Rem x y = number_word (remainder_of x y)
numbers_word binary.Equal x y = truth_word (int_le x y && int_le y x)
numbers_word binary.NotEqual x y = truth_word (not (int_le x y && int_le y x))
numbers_word binary.Less x y = ap (λ b. word_of b ∷ []) (below x y) ∙ truth_word (int_lt x y)
numbers_word binary.LessOrEqual x y = truth_word (int_le x y)
numbers_word binary.Greater x y = ap (λ b. word_of b ∷ []) (below y x) ∙ truth_word (int_lt y x)
numbers_word binary.GreaterOrEqual x y = truth_word (int_le y x)
numbers_word o x y = tt

-- the word of an operator with two truth values
pub truths_word : (o : BinaryOperator) (x y : Bool) → (o ≡ binary.AndThen → ⊥) → (o ≡ binary.OrElse → ⊥) → IsWordOf (binary_value o (Truth x) (Truth y)) (binary_words o (word_of x) (word_of y))
truths_word binary.AndThen true true n m = absurd (n refl)
truths_word binary.AndThen x y n m = absurd (n refl)
truths_word binary.OrElse x y n m = absurd (m refl)
truths_word binary.Add x y n m = tt
truths_word binary.Subtract x y n m = tt
truths_word binary.Multiply x y n m = tt
truths_word binary.Divide x y n m = tt
truths_word binary.Mod x y n m = tt
truths_word binary.Rem x y n m = tt
truths_word binary.Equal true true n m = refl
truths_word binary.Equal false true n m = refl
truths_word binary.Equal x y n m = refl
truths_word binary.NotEqual true true n m = refl
truths_word binary.NotEqual false true n m = refl
truths_word binary.NotEqual x y n m = refl
truths_word binary.Less true true n m = refl
truths_word binary.Less false true n m = refl
truths_word binary.Less x y n m = refl
truths_word binary.LessOrEqual true true n m = refl
truths_word binary.LessOrEqual false true n m = refl
truths_word binary.LessOrEqual x y n m = refl
truths_word binary.Greater true true n m = refl
truths_word binary.Greater false true n m = refl
truths_word binary.Greater x y n m = refl
truths_word binary.GreaterOrEqual true true n m = refl
truths_word binary.GreaterOrEqual false true n m = refl
truths_word binary.GreaterOrEqual x y n m = refl
truths_word binary.And true true n m = refl
truths_word binary.And x y n m = refl
truths_word binary.Or true true n m = refl
truths_word binary.Or false true n m = refl
truths_word binary.Or x y n m = refl
truths_word binary.Xor true true n m = refl
truths_word binary.Xor false true n m = refl
truths_word binary.Xor x y n m = refl

-- the word that an operator of one operand computes
pub number_word_of : (o : UnaryOperator) (x : ℤ) → IsWordOf (unary_value o (Number x)) (unary_words o x)
number_word_of unary.Plus x = refl
number_word_of unary.Minus x = number_word (negation_of x)
number_word_of unary.Abs x = number_word (absolute_of x)
number_word_of unary.Not x = tt

pub truth_word_of : (o : UnaryOperator) (x : Bool) → IsWordOf (unary_value o (Truth x)) (unary_words o (word_of x))
truth_word_of unary.Not true = refl
truth_word_of unary.Not false = refl
truth_word_of o x = tt
