-- Worked texts of schedules: lines by computation.
use Rattle.std.proofs.Common.{◌≡◌, ℕ, ◌++◌, List, [], ◌∷◌, ℤ, pos, negsuc, Option, Some, None, refl}
use Rattle.std.specs.Prelude.{codes}
use Rattle.clock.specs.Texts.{LineText, line_at, number_at, value_at}
use Rattle.clock.specs.Schedules.{next_fault}

abbrev line : ℤ → ℕ → ℤ → Option LineText
line time channel value = Some (record { time = time; channel = channel; value = value })

abbrev read : List ℕ → Option LineText
read text = elim (line_at text) [ Some r ↦ Some r.0 | None ↦ None ]

abbrev ended : List ℕ → List ℕ
ended text = text ++ 10 ∷ []

good : read (ended (codes "500 1 7")) ≡ line (pos 500) 1 (pos 7)
unfolding line_at number_at value_at
good = refl

start : read (ended (codes "0 8 0")) ≡ line (pos 0) 8 (pos 0)
unfolding line_at number_at value_at
start = refl

below_zero : read (ended (codes "12 2 -30")) ≡ line (pos 12) 2 (negsuc 29)
unfolding line_at number_at value_at
below_zero = refl

last_time_there_is : read (ended (codes "9223372036854775807 1 -9223372036854775808")) ≡ line (pos 9223372036854775807) 1 (negsuc 9223372036854775807)
unfolding line_at number_at value_at
last_time_there_is = refl

-- a channel may be of any size: it breaks a rule of its own
large_channel : read (ended (codes "5 99999999999999999999 7")) ≡ line (pos 5) 99999999999999999999 (pos 7)
unfolding line_at number_at value_at
large_channel = refl

-- what is no line
no_line_feed : read (codes "500 1 7") ≡ None
unfolding line_at number_at value_at
no_line_feed = refl

empty_line : read (10 ∷ []) ≡ None
unfolding line_at number_at value_at
empty_line = refl

two_spaces : read (ended (codes "500  1 7")) ≡ None
unfolding line_at number_at value_at
two_spaces = refl

space_behind : read (ended (codes "500 1 7 ")) ≡ None
unfolding line_at number_at value_at
space_behind = refl

leading_zero : read (ended (codes "0500 1 7")) ≡ None
unfolding line_at number_at value_at
leading_zero = refl

minus_zero : read (ended (codes "500 1 -0")) ≡ None
unfolding line_at number_at value_at
minus_zero = refl

minus_leading_zero : read (ended (codes "500 1 -07")) ≡ None
unfolding line_at number_at value_at
minus_leading_zero = refl

plus : read (ended (codes "500 1 +7")) ≡ None
unfolding line_at number_at value_at
plus = refl

negative_time : read (ended (codes "-1 1 7")) ≡ None
unfolding line_at number_at value_at
negative_time = refl

time_too_large : read (ended (codes "9223372036854775808 1 7")) ≡ None
unfolding line_at number_at value_at
time_too_large = refl

value_too_large : read (ended (codes "5 1 9223372036854775808")) ≡ None
unfolding line_at number_at value_at
value_too_large = refl

value_too_small : read (ended (codes "5 1 -9223372036854775809")) ≡ None
unfolding line_at number_at value_at
value_too_small = refl

-- the first rule that is broken: 53, 50, 52, 51
time_goes_back : next_fault 1 (pos 500) (ended (codes "400 1 8")) ≡ Some 51
unfolding line_at number_at value_at
time_goes_back = refl

same_time : next_fault 1 (pos 500) (ended (codes "500 1 8")) ≡ None
unfolding line_at number_at value_at
same_time = refl

channel_before_time : next_fault 1 (pos 500) (ended (codes "400 9 8")) ≡ Some 52
unfolding line_at number_at value_at
channel_before_time = refl

channel_nought : next_fault 0 (pos 0) (ended (codes "400 0 8")) ≡ Some 52
unfolding line_at number_at value_at
channel_nought = refl

form_before_channel : next_fault 0 (pos 0) (ended (codes "400 9 9223372036854775808")) ≡ Some 50
unfolding line_at number_at value_at
form_before_channel = refl

count_before_form : next_fault 4096 (pos 0) (10 ∷ []) ≡ Some 53
unfolding line_at number_at value_at
count_before_form = refl

last_line_there_is : next_fault 4095 (pos 0) (ended (codes "0 1 1")) ≡ None
unfolding line_at number_at value_at
last_line_there_is = refl
