-- What operators give (RM 4.5). Time and Time_Span are numbers of microseconds, so their sums and differences are those of integers, with the same bounds.
use Rattle.std.specs.Prelude.{ℤ, pos, Bool, true, false, not, int_le, ◌&&◌, ◌||◌}
use Rattle.base.specs.Arithmetic.{sum_of, difference_of, product_of, quotient_of, remainder_of, modulus_of, negation_of, absolute_of}
use Rattle.ada_tree.specs.declared.expression.UnaryOperator.{UnaryOperator}
use Rattle.ada_tree.specs.declared.expression.UnaryOperator.TheVariants as unary
use Rattle.ada_tree.specs.declared.expression.BinaryOperator.{BinaryOperator}
use Rattle.ada_tree.specs.declared.expression.BinaryOperator.TheVariants as binary
use Rattle.types.specs.Values.{Value, Number, Truth}
use Rattle.types.specs.Evaluations.{Val, Gives, Meaningless, computed}

abbrev pub truth : Bool → Val Value
truth b = Gives (Truth b)

abbrev pub are_same : ℤ → ℤ → Bool
are_same x y = int_le x y && int_le y x

abbrev pub same_truth : Bool → Bool → Bool
same_truth true y = y
same_truth false y = not y

-- operators of a single operand (RM 4.5.4, 4.5.6)
abbrev pub unary_value : UnaryOperator → Value → Val Value
unary_value unary.Plus (Number z) = Gives (Number z)
unary_value unary.Minus (Number z) = computed (negation_of z)
unary_value unary.Abs (Number z) = computed (absolute_of z)
unary_value unary.Not (Truth b) = truth (not b)
unary_value operator v = Meaningless

-- operators of two operands whose values are both needed (RM 4.5.1 to 4.5.5); False is below True
abbrev pub binary_value : BinaryOperator → Value → Value → Val Value
binary_value binary.Add (Number x) (Number y) = computed (sum_of x y)
binary_value binary.Subtract (Number x) (Number y) = computed (difference_of x y)
binary_value binary.Multiply (Number x) (Number y) = computed (product_of x y)
binary_value binary.Divide (Number x) (Number y) = computed (quotient_of x y)
binary_value binary.Mod (Number x) (Number y) = computed (modulus_of x y)
binary_value binary.Rem (Number x) (Number y) = computed (remainder_of x y)
binary_value binary.Equal (Number x) (Number y) = truth (are_same x y)
binary_value binary.NotEqual (Number x) (Number y) = truth (not (are_same x y))
binary_value binary.Less (Number x) (Number y) = truth (not (int_le y x))
binary_value binary.LessOrEqual (Number x) (Number y) = truth (int_le x y)
binary_value binary.Greater (Number x) (Number y) = truth (not (int_le x y))
binary_value binary.GreaterOrEqual (Number x) (Number y) = truth (int_le y x)
binary_value binary.Equal (Truth x) (Truth y) = truth (same_truth x y)
binary_value binary.NotEqual (Truth x) (Truth y) = truth (not (same_truth x y))
binary_value binary.Less (Truth x) (Truth y) = truth (not x && y)
binary_value binary.LessOrEqual (Truth x) (Truth y) = truth (not x || y)
binary_value binary.Greater (Truth x) (Truth y) = truth (x && not y)
binary_value binary.GreaterOrEqual (Truth x) (Truth y) = truth (x || not y)
binary_value binary.And (Truth x) (Truth y) = truth (x && y)
binary_value binary.Or (Truth x) (Truth y) = truth (x || y)
binary_value binary.Xor (Truth x) (Truth y) = truth (not (same_truth x y))
binary_value binary.AndThen (Truth x) (Truth y) = truth y
binary_value binary.OrElse (Truth x) (Truth y) = truth y
binary_value operator v w = Meaningless

-- whether the left operand alone decides, and the right one is not evaluated (RM 4.5.1)
abbrev pub is_decided : BinaryOperator → Value → Bool
is_decided binary.AndThen (Truth false) = true
is_decided binary.OrElse (Truth true) = true
is_decided operator v = false

-- `Milliseconds (N)`, as microseconds (RM D.8)
abbrev pub milliseconds_value : ℤ → Val Value
milliseconds_value z = computed (product_of (pos 1000) z)

abbrev pub microseconds_value : ℤ → Val Value
microseconds_value z = Gives (Number z)
