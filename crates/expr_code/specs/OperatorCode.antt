-- The instructions of operators, and what these make of words (RM 4.5; docs/FORMATS.md, "Instructions").
use Rattle.std.specs.Prelude.{◌≡◌, ℕ, ℤ, [], ◌∷◌, Option, Some, None, Ok, Err, int_le, int_lt}
use Rattle.std.specs.Int.{w64, int_bit_and, int_bit_or, int_bit_xor}
use Rattle.base.specs.Arithmetic.{Checked, sum_of, difference_of, product_of, quotient_of, remainder_of, modulus_of, negation_of, absolute_of}
use Rattle.base.specs.Exceptions.{number_of}
use Rattle.ada_tree.specs.declared.expression.UnaryOperator.{UnaryOperator}
use Rattle.ada_tree.specs.declared.expression.UnaryOperator.TheVariants as unary
use Rattle.ada_tree.specs.declared.expression.BinaryOperator.{BinaryOperator}
use Rattle.ada_tree.specs.declared.expression.BinaryOperator.TheVariants as binary
use Rattle.image.specs.Sections.{Sections}
use Rattle.image.specs.declared.instruction.Operation.{Operation}
use Rattle.image.specs.declared.instruction.Operation.TheVariants as op
use Rattle.image.specs.Scalars.{are_equal, are_different, is_greater, is_greater_or_equal, is_zero_word, relation, bitwise}
use Rattle.types.specs.Values.{Value}
use Rattle.types.specs.Shapes.{value_words}
use Rattle.types.specs.Evaluations.{Val, Gives, Raises, Meaningless}
use Rattle.expr_code.specs.Views.{At}

-- the instruction of an operator that takes both operands; `and then` and `or else` have jumps in its place
abbrev pub binary_operation : BinaryOperator → Option Operation
binary_operation binary.Add = Some op.Add
binary_operation binary.Subtract = Some op.Subtract
binary_operation binary.Multiply = Some op.Multiply
binary_operation binary.Divide = Some op.Divide
binary_operation binary.Mod = Some op.Modulo
binary_operation binary.Rem = Some op.Remainder
binary_operation binary.Equal = Some op.Equal
binary_operation binary.NotEqual = Some op.NotEqual
binary_operation binary.Less = Some op.Less
binary_operation binary.LessOrEqual = Some op.LessOrEqual
binary_operation binary.Greater = Some op.Greater
binary_operation binary.GreaterOrEqual = Some op.GreaterOrEqual
binary_operation binary.And = Some op.And
binary_operation binary.Or = Some op.Or
binary_operation binary.Xor = Some op.ExclusiveOr
binary_operation binary.AndThen = None
binary_operation binary.OrElse = None

-- what it makes of two words
abbrev pub binary_words : BinaryOperator → ℤ → ℤ → Checked
binary_words binary.Add = sum_of
binary_words binary.Subtract = difference_of
binary_words binary.Multiply = product_of
binary_words binary.Divide = quotient_of
binary_words binary.Mod = modulus_of
binary_words binary.Rem = remainder_of
binary_words binary.Equal = relation are_equal
binary_words binary.NotEqual = relation are_different
binary_words binary.Less = relation int_lt
binary_words binary.LessOrEqual = relation int_le
binary_words binary.Greater = relation is_greater
binary_words binary.GreaterOrEqual = relation is_greater_or_equal
binary_words binary.And = bitwise (int_bit_and w64)
binary_words binary.Or = bitwise (int_bit_or w64)
binary_words binary.Xor = bitwise (int_bit_xor w64)
binary_words binary.AndThen = λ x y. Ok y
binary_words binary.OrElse = λ x y. Ok y

-- the instruction of an operator of one operand; `+` has none
abbrev pub unary_operation : UnaryOperator → Option Operation
unary_operation unary.Plus = None
unary_operation unary.Minus = Some op.Negate
unary_operation unary.Abs = Some op.Absolute
unary_operation unary.Not = Some op.Not

abbrev pub unary_words : UnaryOperator → ℤ → Checked
unary_words unary.Plus = λ x. Ok x
unary_words unary.Minus = negation_of
unary_words unary.Abs = absolute_of
unary_words unary.Not = is_zero_word

-- the operation stands at a place
abbrev pub Has : Sections → ℕ → Option Operation → Type 0
Has i place (Some operation) = At i place operation
Has i place None = ⊥

-- a word that was computed is that of the value, or raises its exception; of what has no meaning nothing is said
abbrev pub IsWordOf : Val Value → Checked → Type 0
IsWordOf (Gives v) (Ok z) = value_words v ≡ z ∷ []
IsWordOf (Gives v) (Err x) = ⊥
IsWordOf (Raises x) (Ok z) = ⊥
IsWordOf (Raises x) (Err y) = x ≡ number_of y
IsWordOf Meaningless c = Unit {0}
