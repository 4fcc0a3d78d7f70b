-- Operators at their edges, worked by computation.
use Rattle.std.proofs.Common.{◌≡◌, ℤ, Bool, true, false, refl}
use Rattle.std.specs.Prelude.{pos, negsuc, ◌^◌, ◌-◌}
use Rattle.ada_tree.specs.declared.expression.UnaryOperator.TheVariants as unary
use Rattle.ada_tree.specs.declared.expression.BinaryOperator.{BinaryOperator}
use Rattle.ada_tree.specs.declared.expression.BinaryOperator.TheVariants as binary
use Rattle.types.specs.Scopes.{least_number, greatest_number}
use Rattle.types.specs.Values.{Value, Number, Truth}
use Rattle.types.specs.Evaluations.{Val, Gives, Raises, Meaningless}
use Rattle.types.specs.Operators.{unary_value, binary_value, milliseconds_value, microseconds_value}

abbrev whole : BinaryOperator → ℤ → ℤ → Val Value
whole operator x y = binary_value operator (Number x) (Number y)

abbrev logical : BinaryOperator → Bool → Bool → Val Value
logical operator x y = binary_value operator (Truth x) (Truth y)

abbrev constraint_error : Val Value
constraint_error = Raises 1

-- -1, which ends the sums of integers
abbrev less_one : ℤ
less_one = negsuc 0

-- ---- the last and the first value

past_last : whole binary.Add greatest_number (pos 1) ≡ constraint_error
past_last = refl

at_last : whole binary.Add greatest_number (pos 0) ≡ Gives (Number greatest_number)
at_last = refl

past_first : whole binary.Subtract least_number (pos 1) ≡ constraint_error
past_first = refl

at_first : whole binary.Add least_number greatest_number ≡ Gives (Number less_one)
at_first = refl

first_less_first : whole binary.Subtract least_number least_number ≡ Gives (Number (pos 0))
first_less_first = refl

last_less_first : whole binary.Subtract (pos 0) least_number ≡ constraint_error
last_less_first = refl

product_past_last : whole binary.Multiply greatest_number (pos 2) ≡ constraint_error
product_past_last = refl

product_past_first : whole binary.Multiply least_number less_one ≡ constraint_error
product_past_first = refl

product_at_first : whole binary.Multiply (pos (2 ^ 62)) (negsuc 1) ≡ Gives (Number least_number)
product_at_first = refl

negated_first : unary_value unary.Minus (Number least_number) ≡ constraint_error
negated_first = refl

negated_last : unary_value unary.Minus (Number greatest_number) ≡ Gives (Number (negsuc (2 ^ 63 - 2)))
negated_last = refl

absolute_first : unary_value unary.Abs (Number least_number) ≡ constraint_error
absolute_first = refl

absolute_less : unary_value unary.Abs (Number (negsuc 4)) ≡ Gives (Number (pos 5))
absolute_less = refl

plus_first : unary_value unary.Plus (Number least_number) ≡ Gives (Number least_number)
plus_first = refl

-- ---- divisors

divided_by_nothing : whole binary.Divide (pos 7) (pos 0) ≡ constraint_error
divided_by_nothing = refl

mod_nothing : whole binary.Mod (pos 7) (pos 0) ≡ constraint_error
mod_nothing = refl

rem_nothing : whole binary.Rem (pos 7) (pos 0) ≡ constraint_error
rem_nothing = refl

first_by_less_one : whole binary.Divide least_number less_one ≡ constraint_error
first_by_less_one = refl

first_mod_less_one : whole binary.Mod least_number less_one ≡ Gives (Number (pos 0))
first_mod_less_one = refl

first_rem_less_one : whole binary.Rem least_number less_one ≡ Gives (Number (pos 0))
first_rem_less_one = refl

-- toward zero; `rem` with the sign of the left operand, `mod` with that of the right one
quotients : whole binary.Divide (negsuc 6) (pos 2) ≡ Gives (Number (negsuc 2))
quotients = refl

remainders : whole binary.Rem (negsuc 6) (pos 3) ≡ Gives (Number less_one)
remainders = refl

moduli : whole binary.Mod (negsuc 6) (pos 3) ≡ Gives (Number (pos 2))
moduli = refl

moduli_by_less : whole binary.Mod (pos 7) (negsuc 2) ≡ Gives (Number (negsuc 1))
moduli_by_less = refl

-- ---- relations

first_below_last : whole binary.Less least_number greatest_number ≡ Gives (Truth true)
first_below_last = refl

not_below_itself : whole binary.Less greatest_number greatest_number ≡ Gives (Truth false)
not_below_itself = refl

at_most_itself : whole binary.LessOrEqual least_number least_number ≡ Gives (Truth true)
at_most_itself = refl

above : whole binary.Greater (pos 0) less_one ≡ Gives (Truth true)
above = refl

at_least : whole binary.GreaterOrEqual less_one (pos 0) ≡ Gives (Truth false)
at_least = refl

equal : whole binary.Equal less_one less_one ≡ Gives (Truth true)
equal = refl

unequal : whole binary.NotEqual less_one (pos 1) ≡ Gives (Truth true)
unequal = refl

false_below_true : logical binary.Less false true ≡ Gives (Truth true)
false_below_true = refl

true_not_below : logical binary.Less true true ≡ Gives (Truth false)
true_not_below = refl

true_above_false : logical binary.Greater true false ≡ Gives (Truth true)
true_above_false = refl

true_not_at_most_false : logical binary.LessOrEqual true false ≡ Gives (Truth false)
true_not_at_most_false = refl

false_not_at_least_true : logical binary.GreaterOrEqual false true ≡ Gives (Truth false)
false_not_at_least_true = refl

same_truths : logical binary.Equal false false ≡ Gives (Truth true)
same_truths = refl

other_truths : logical binary.NotEqual false true ≡ Gives (Truth true)
other_truths = refl

exclusive : logical binary.Xor true true ≡ Gives (Truth false)
exclusive = refl

conjunction : logical binary.And true false ≡ Gives (Truth false)
conjunction = refl

disjunction : logical binary.Or false true ≡ Gives (Truth true)
disjunction = refl

negation : unary_value unary.Not (Truth false) ≡ Gives (Truth true)
negation = refl

-- ---- what has no meaning

sum_of_truths : logical binary.Add true true ≡ Meaningless
sum_of_truths = refl

conjunction_of_numbers : whole binary.And (pos 1) (pos 1) ≡ Meaningless
conjunction_of_numbers = refl

mixed : binary_value binary.Equal (Number (pos 1)) (Truth true) ≡ Meaningless
mixed = refl

-- ---- times

milliseconds : milliseconds_value (pos 5) ≡ Gives (Number (pos 5000))
milliseconds = refl

milliseconds_past_last : milliseconds_value (pos (2 ^ 62)) ≡ constraint_error
milliseconds_past_last = refl

milliseconds_before : milliseconds_value (negsuc 0) ≡ Gives (Number (negsuc 999))
milliseconds_before = refl

microseconds : microseconds_value least_number ≡ Gives (Number least_number)
microseconds = refl

time_past_last : whole binary.Add greatest_number (pos 1) ≡ constraint_error
time_past_last = refl

span_before : whole binary.Subtract (pos 3) (pos 5) ≡ Gives (Number (negsuc 1))
span_before = refl
