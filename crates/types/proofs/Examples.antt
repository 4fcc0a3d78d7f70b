-- Names, types and values of two small programs, worked by computation.
use Rattle.std.proofs.Common.{◌≡◌, ℕ, ℤ, List, [], ◌∷◌, Option, Some, None, true, false, refl}
use Rattle.std.specs.Prelude.{pos, negsuc, codes, ◌^◌, ◌-◌}
use Rattle.ada_tree.specs.declared.expression.BinaryOperator.TheVariants as binary
use Rattle.ada_tree.specs.declared.declaration.Mode.TheVariants as mode
use Rattle.ada_tree.specs.ExpressionTree.{ExprTree, SelectorTree, selectors_of}
use Rattle.types.specs.declared.entity.Barrier as barrier
use Rattle.types.specs.declared.entity.Barrier.TheVariants as barriers
use Rattle.types.specs.declared.entity.Subtype.{Subtype}
use Rattle.types.specs.declared.entity.Role.TheVariants as role
use Rattle.types.specs.declared.entity.Value.TheVariants as scalar
use Rattle.types.specs.declared.standing.Standing.TheVariants as standing
use Rattle.types.specs.declared.statics.StaticForm.TheVariants as form
use Rattle.types.specs.declared.standing.Standing.{Standing}
use Rattle.types.specs.Entities.{Profile, Operation, Integers, Arrays, Records, OfType, OfSubtype, Object, Constant, Subprogram, Protected}
use Rattle.types.specs.Scopes.{Scope, Named, standard, with_name, with_real_time, with_control_io, number_of, integer, boolean, base_range_of, least_number, operations_or, protected_at, with_barrier, with_operations}
use Rattle.types.specs.Standings.{standing_of}
use Rattle.types.specs.Values.{Value, Number, Truth, Array, Record, NoValues, MoreValues, NoFields, MoreFields, fits}
use Rattle.types.specs.Shapes.{shape_of, initial, value_words, value_back, has_shape}
use Rattle.types.specs.Layouts.{words_of, first_word}
use Rattle.types.specs.Evaluations.{Val, Gives, Raises, Meaningless}
use Rattle.types.specs.Places as places
use Rattle.types.specs.Places.{Function, Place, active_priority}
use Rattle.types.specs.Evaluating.{val, passed}
use Rattle.types.specs.Statics.{static_form, static_value}
use Rattle.types.proofs.Trees.{identifier, num, minus, two, grouped, if_then, if_elsif, name, name_of, at, at_both, dot, tick}

-- ---- a scope: the units, `type Small is range 0 .. 9; subtype Odd is Small range 1 .. 7; type Idx is range 1 .. 3; type Vec is array (Idx) of Integer;
-- type Pair is record A : Integer; B : Boolean; end record; type Pairs is array (1 .. 2) of Pair; Seven : constant Small := 7; V : Vec; Q : Pairs;
-- function F (N : Integer) return Integer; protected P with Priority => 10 is function Get (S : Small) return Small; .. private K : Integer; end P;`

abbrev units : Scope
units = with_control_io (with_real_time standard)

real_time_type : number_of units (codes "TIME") ≡ Some 10
real_time_type = refl

abbrev subtype_of : ℕ → ℕ → ℕ → Subtype
subtype_of type_number first last = record { type_number = type_number; first = pos first; last = pos last }

abbrev small : Subtype
small = subtype_of 17 0 9

abbrev odd : Subtype
odd = subtype_of 17 1 7

abbrev idx : Subtype
idx = subtype_of 19 1 3

abbrev vec : Subtype
vec = subtype_of 20 0 0

abbrev pair : Subtype
pair = subtype_of 21 0 0

abbrev pairs : Subtype
pairs = subtype_of 22 0 0

abbrev declared : Scope → List Named → Scope
declared s [] = s
declared s (n ∷ rest) = declared (with_name s n.name n.entity) rest

abbrev get_profile : Profile
get_profile = record { formals = record { mode = mode.In; subtype = small } ∷ []; result = Some small }

abbrev package_scope : Scope
package_scope =
    declared
    units
    (record { name = codes "SMALL"; entity = OfType Integers small }
    ∷ record { name = codes "ODD"; entity = OfSubtype odd }
    ∷ record { name = codes "IDX"; entity = OfType Integers idx }
    ∷ record { name = codes "VEC"; entity = OfType (Arrays idx 3 integer) vec }
    ∷ record { name = codes "PAIR"; entity = OfType (Records (record { name = codes "A"; subtype = integer } ∷ record { name = codes "B"; subtype = boolean } ∷ [])) pair }
    ∷ record { name = codes "PAIRS"; entity = OfType (Arrays (subtype_of 0 1 2) 2 pair) pairs }
    ∷ record { name = codes "SEVEN"; entity = Constant small (Some (scalar.Number (pos 7))) }
    ∷ record { name = codes "V"; entity = Object role.Variable vec }
    ∷ record { name = codes "Q"; entity = Object role.Variable pairs }
    ∷ record { name = codes "F"; entity = Subprogram (record { formals = record { mode = mode.In; subtype = integer } ∷ []; result = Some integer }) }
    ∷ record {
      name = codes "P";
      entity = Protected (record { number = 0; ceiling = 10; operations = record { name = codes "GET"; is_entry = false; profile = get_profile } ∷ []; components = record { name = codes "K"; subtype = integer } ∷ []; barrier = None });
    }
    ∷ [])

first_name_of_the_package : number_of package_scope (codes "SMALL") ≡ Some 17
first_name_of_the_package = refl

last_type_of_the_package : number_of package_scope (codes "PAIRS") ≡ Some 22
last_type_of_the_package = refl

-- the first of two keeps the name
kept_name : with_name units (codes "PUT") (OfSubtype small) ≡ units
kept_name = refl

-- ---- values, words, layouts

-- Integer starts at its First, a subtype at its own
initial_integer : initial package_scope integer ≡ Number least_number
initial_integer = refl

initial_odd : initial package_scope odd ≡ Number (pos 1)
initial_odd = refl

initial_time : initial package_scope (base_range_of 10) ≡ Number (pos 0)
initial_time = refl

abbrev fresh_pair : Value
fresh_pair = Record (MoreFields (codes "A") (Number least_number) (MoreFields (codes "B") (Truth false) NoFields))

initial_pairs : initial package_scope pairs ≡ Array (MoreValues fresh_pair (MoreValues fresh_pair NoValues))
initial_pairs = refl

words_of_pairs : words_of package_scope pairs ≡ 4
words_of_pairs = refl

abbrev set_pair : Value
set_pair = Record (MoreFields (codes "A") (Number (pos 5)) (MoreFields (codes "B") (Truth true) NoFields))

words_of_set_pair : value_words set_pair ≡ pos 5 ∷ pos 1 ∷ []
words_of_set_pair = refl

back_again : value_back (shape_of package_scope pairs) (pos 5 ∷ pos 1 ∷ pos 6 ∷ pos 0 ∷ []) ≡ Array (MoreValues set_pair (MoreValues (Record (MoreFields (codes "A") (Number (pos 6)) (MoreFields (codes "B") (Truth false) NoFields))) NoValues))
back_again = refl

of_its_shape : has_shape (shape_of package_scope pair) set_pair ≡ true
of_its_shape = refl

not_of_another_shape : has_shape (shape_of package_scope vec) set_pair ≡ false
not_of_another_shape = refl

layout : first_word (words_of package_scope vec ∷ words_of package_scope integer ∷ words_of package_scope pairs ∷ words_of package_scope boolean ∷ []) 3 ≡ 8
layout = refl

fits_at_bounds : fits odd (Number (pos 7)) ≡ true
fits_at_bounds = refl

fits_no_further : fits odd (Number (pos 8)) ≡ false
fits_no_further = refl

-- ---- what names stand for, and static values

abbrev stands : List ℕ → List SelectorTree → Standing
stands text selectors = standing_of package_scope (identifier text) (selectors_of selectors)

stands_component : stands (codes "Q") (at (num 9) ∷ dot (codes "B") ∷ []) ≡ standing.Part role.Variable boolean
stands_component = refl

no_such_component : stands (codes "Q") (at (num 1) ∷ dot (codes "C") ∷ []) ≡ standing.Doubtful
no_such_component = refl

stands_conversion : stands (codes "ODD") (at (num 1) ∷ []) ≡ standing.Given odd None
stands_conversion = refl

-- First of the subtype, not of its type
first_of_odd : stands (codes "ODD") (tick (codes "FIRST") ∷ []) ≡ standing.Given (base_range_of 17) (Some (scalar.Number (pos 1)))
first_of_odd = refl

last_of_vec : stands (codes "V") (tick (codes "LAST") ∷ []) ≡ standing.Given (base_range_of 19) (Some (scalar.Number (pos 3)))
last_of_vec = refl

length_of_vec : stands (codes "VEC") (tick (codes "LENGTH") ∷ []) ≡ standing.Plain (pos 3)
length_of_vec = refl

stands_call : stands (codes "P") (dot (codes "GET") ∷ at (num 1) ∷ []) ≡ standing.Given small None
stands_call = refl

stands_operation : stands (codes "P") (dot (codes "K") ∷ []) ≡ standing.Doubtful
stands_operation = refl

stands_time : stands (codes "CLOCK") [] ≡ standing.Given (base_range_of 10) None
stands_time = refl

stands_put : stands (codes "PUT") (at_both (num 1) (num 1) ∷ []) ≡ standing.Statement
stands_put = refl

static_sum : static_value package_scope (two binary.Add (name (codes "SEVEN")) (name_of (codes "VEC") (tick (codes "LENGTH") ∷ []))) ≡ Gives (Number (pos 10))
static_sum = refl

static_past_last : static_value package_scope (two binary.Add (name_of (codes "INTEGER") (tick (codes "LAST") ∷ [])) (num 1)) ≡ Raises 1
static_past_last = refl

is_static : static_form package_scope (two binary.AndThen (name (codes "TRUE")) (two binary.Less (name (codes "SEVEN")) (num 8))) ≡ form.Static
is_static = refl

variable_is_not : static_form package_scope (two binary.Add (num 1) (name_of (codes "V") (at (num 1) ∷ []))) ≡ form.NotStatic
variable_is_not = refl

conversion_is_not : static_form package_scope (name_of (codes "SMALL") (at (num 1) ∷ [])) ≡ form.NotStatic
conversion_is_not = refl

conditional_is_not : static_form package_scope (if_then (name (codes "TRUE")) (num 1) (num 2)) ≡ form.NotStatic
conditional_is_not = refl

unknown_is_doubtful : static_form package_scope (two binary.Add (num 1) (name (codes "NOBODY"))) ≡ form.Doubtful
unknown_is_doubtful = refl

-- the right side is not evaluated: it would raise
static_by_need : static_value package_scope (two binary.AndThen (name (codes "FALSE")) (two binary.Equal (two binary.Divide (num 1) (num 0)) (num 1))) ≡ Gives (Truth false)
static_by_need = refl

-- ---- the places of evaluation: V is (5, 10, 20), Q starts anew, A is 7, B is -1, P.K is 4, the time is 500

abbrev object : List ℕ → Subtype → Value → places.Object
object text t v = record { name = text; subtype = t; value = v }

abbrev three : ℤ → ℤ → ℤ → Value
three x y z = Array (MoreValues (Number x) (MoreValues (Number y) (MoreValues (Number z) NoValues)))

-- `function F (N : Integer) return Integer is begin return (if N = 0 then 0 else 1 + F (N - 1)); end F;`
abbrev recursive : Function
recursive =
    record {
      object = None;
      name = codes "F";
      formals = record { name = codes "N"; subtype = integer } ∷ [];
      result = integer;
      value = if_then (two binary.Equal (name (codes "N")) (num 0)) (num 0) (two binary.Add (num 1) (name_of (codes "F") (at (two binary.Subtract (name (codes "N")) (num 1)) ∷ [])));
    }

-- `function Get (S : Small) return Small is begin return K + S; end Get;`, and `function Twice (S : Small) return Small is begin return Get (S) + Get (S); end Twice;`
abbrev get : Function
get = record { object = Some 0; name = codes "GET"; formals = record { name = codes "S"; subtype = small } ∷ []; result = small; value = two binary.Add (name (codes "K")) (name (codes "S")) }

abbrev twice : Function
twice =
    record {
      object = Some 0;
      name = codes "TWICE";
      formals = record { name = codes "S"; subtype = small } ∷ [];
      result = small;
      value = two binary.Add (name_of (codes "GET") (at (name (codes "S")) ∷ [])) (name_of (codes "GET") (at (name (codes "S")) ∷ []));
    }

abbrev here : Place
here =
    record {
      scope = package_scope;
      functions = recursive ∷ get ∷ twice ∷ [];
      schedule = record { time = pos 500; channel = 1; value = pos 7 } ∷ record { time = pos 501; channel = 1; value = pos 8 } ∷ [];
      now = pos 500;
      variables = object (codes "V") vec (three (pos 5) (pos 10) (pos 20)) ∷ object (codes "Q") pairs (initial package_scope pairs) ∷ [];
      components = λ n. object (codes "K") integer (Number (pos 4)) ∷ [];
      locals = object (codes "B") integer (Number (negsuc 0)) ∷ object (codes "A") integer (Number (pos 7)) ∷ [];
      within = None;
      actions = [];
      priority = 5;
      frames_left = 30;
    }

-- `-A mod 3` is `-(A mod 3)`
sign_takes_term : val here (minus (two binary.Mod (name (codes "A")) (num 3))) ≡ Gives (Number (negsuc 0))
sign_takes_term = refl

mod_of_less : val here (two binary.Mod (grouped (minus (name (codes "A")))) (num 3)) ≡ Gives (Number (pos 2))
mod_of_less = refl

rem_of_less : val here (two binary.Rem (grouped (minus (name (codes "A")))) (num 3)) ≡ Gives (Number (negsuc 0))
rem_of_less = refl

mod_by_less : val here (two binary.Mod (name (codes "A")) (grouped (minus (num 3)))) ≡ Gives (Number (negsuc 1))
mod_by_less = refl

quotient : val here (minus (two binary.Divide (name (codes "A")) (num 2))) ≡ Gives (Number (negsuc 2))
quotient = refl

first_mod_less_one : val here (two binary.Mod (name_of (codes "INTEGER") (tick (codes "FIRST") ∷ [])) (name (codes "B"))) ≡ Gives (Number (pos 0))
first_mod_less_one = refl

first_by_less_one : val here (two binary.Divide (name_of (codes "INTEGER") (tick (codes "FIRST") ∷ [])) (name (codes "B"))) ≡ Raises 1
first_by_less_one = refl

last_less_one : val here (two binary.Subtract (name_of (codes "INTEGER") (tick (codes "LAST") ∷ [])) (num 1)) ≡ Gives (Number (pos (2 ^ 63 - 2)))
last_less_one = refl

-- `S : Small := 10` raises
ten_is_not_small : passed small (Number (pos 10)) ≡ Raises 1
ten_is_not_small = refl

nine_is_small : passed small (Number (pos 9)) ≡ Gives (Number (pos 9))
nine_is_small = refl

-- ---- indexes and components

abbrev vec_at : ExprTree → ExprTree
vec_at e = name_of (codes "V") (at e ∷ [])

at_first : val here (vec_at (num 1)) ≡ Gives (Number (pos 5))
at_first = refl

at_last : val here (vec_at (num 3)) ≡ Gives (Number (pos 20))
at_last = refl

below_first : val here (vec_at (num 0)) ≡ Raises 1
below_first = refl

above_last : val here (vec_at (num 4)) ≡ Raises 1
above_last = refl

nested_index : val here (vec_at (two binary.Divide (vec_at (num 2)) (num 5))) ≡ Gives (Number (pos 10))
nested_index = refl

of_component : val here (name_of (codes "Q") (at (num 2) ∷ dot (codes "B") ∷ [])) ≡ Gives (Truth false)
of_component = refl

whole_object : val here (name (codes "V")) ≡ Gives (three (pos 5) (pos 10) (pos 20))
whole_object = refl

-- the prefix of an attribute is not evaluated: the index of this one would raise
by_type_alone : val here (name_of (codes "V") (tick (codes "LENGTH") ∷ [])) ≡ Gives (Number (pos 3))
by_type_alone = refl

-- `(if Q (1).B then V (1) else 0)`, and the part that is not chosen raises
not_chosen : val here (if_then (name_of (codes "Q") (at (num 1) ∷ dot (codes "B") ∷ [])) (vec_at (num 4)) (num 0)) ≡ Gives (Number (pos 0))
not_chosen = refl

elsif_chosen : val here (if_elsif (name (codes "FALSE")) (vec_at (num 0)) (two binary.Greater (vec_at (num 3)) (num 15)) (vec_at (num 1)) (vec_at (num 4))) ≡ Gives (Number (pos 5))
elsif_chosen = refl

condition_raises : val here (if_then (two binary.Equal (vec_at (num 4)) (num 0)) (num 1) (num 2)) ≡ Raises 1
condition_raises = refl

by_need : val here (two binary.OrElse (two binary.Less (num 1) (num 2)) (two binary.Equal (vec_at (num 4)) (num 0))) ≡ Gives (Truth true)
by_need = refl

both_evaluated : val here (two binary.Or (two binary.Less (num 1) (num 2)) (two binary.Equal (vec_at (num 4)) (num 0))) ≡ Raises 1
both_evaluated = refl

-- ---- conversions, time, inputs

converted : val here (name_of (codes "ODD") (at (name (codes "A")) ∷ [])) ≡ Gives (Number (pos 7))
converted = refl

not_converted : val here (name_of (codes "ODD") (at (num 8) ∷ [])) ≡ Raises 1
not_converted = refl

clock : val here (two binary.Add (name (codes "CLOCK")) (name_of (codes "MILLISECONDS") (at (num 1) ∷ []))) ≡ Gives (Number (pos 1500))
clock = refl

long_milliseconds : val here (name_of (codes "MILLISECONDS") (at (name_of (codes "INTEGER") (tick (codes "LAST") ∷ [])) ∷ [])) ≡ Raises 1
long_milliseconds = refl

input_now : val here (name_of (codes "READ") (at (num 1) ∷ [])) ≡ Gives (Number (pos 7))
input_now = refl

silent_channel : val here (name_of (codes "READ") (at (num 8) ∷ [])) ≡ Gives (Number (pos 0))
silent_channel = refl

no_channel_0 : val here (name_of (codes "READ") (at (num 0) ∷ [])) ≡ Raises 1
no_channel_0 = refl

no_channel_9 : val here (name_of (codes "READ") (at (num 9) ∷ [])) ≡ Raises 1
no_channel_9 = refl

-- ---- calls

abbrev function_at : List ℕ → ExprTree → ExprTree
function_at text e = name_of text (at e ∷ [])

abbrev get_of : ExprTree → ExprTree
get_of e = name_of (codes "P") (dot (codes "GET") ∷ at e ∷ [])

-- two frames are taken, and thirty calls take the rest
deep_enough : val here (function_at (codes "F") (num 29)) ≡ Gives (Number (pos 29))
deep_enough = refl

too_deep : val here (function_at (codes "F") (num 30)) ≡ Raises 3
too_deep = refl

external : val here (get_of (num 5)) ≡ Gives (Number (pos 9))
external = refl

-- the result is outside Small
result_checked : val here (get_of (num 6)) ≡ Raises 1
result_checked = refl

-- the parameter is outside Small: checked before anything is refused
parameter_first : val (record here { actions = 0 ∷ [] }) (get_of (num 10)) ≡ Raises 1
parameter_first = refl

-- the object's action is open
same_object : val (record here { actions = 0 ∷ []; priority = 20; frames_left = 0 }) (get_of (num 5)) ≡ Raises 2
same_object = refl

above_ceiling : val (record here { priority = 11; frames_left = 0 }) (get_of (num 5)) ≡ Raises 2
above_ceiling = refl

at_ceiling : val (record here { priority = 10; frames_left = 1 }) (get_of (num 5)) ≡ Gives (Number (pos 9))
at_ceiling = refl

no_frame : val (record here { frames_left = 0 }) (get_of (num 5)) ≡ Raises 3
no_frame = refl

active_in_action : active_priority (record here { actions = 0 ∷ [] }) ≡ 10
active_in_action = refl

-- called from inside by its own name, a function opens nothing
internal : val (record here { within = Some 0; actions = 0 ∷ []; priority = 20 }) (function_at (codes "GET") (num 5)) ≡ Gives (Number (pos 9))
internal = refl

calls_inside : val here (name_of (codes "P") (dot (codes "TWICE") ∷ at (num 0) ∷ [])) ≡ Gives (Number (pos 8))
calls_inside = refl

component_inside : val (record here { within = Some 0 }) (name (codes "K")) ≡ Gives (Number (pos 4))
component_inside = refl

component_outside : val here (name (codes "K")) ≡ Meaningless
component_outside = refl

-- actuals from left to right: the first of two wrong ones raises
abbrev first_of_two : Function
first_of_two =
    record { object = None; name = codes "G"; formals = record { name = codes "X"; subtype = small } ∷ record { name = codes "Y"; subtype = integer } ∷ []; result = small; value = name (codes "X") }

left_to_right : val (record here { functions = recursive ∷ first_of_two ∷ [] }) (name_of (codes "G") (at_both (num 10) (function_at (codes "F") (num 30)) ∷ [])) ≡ Raises 1
left_to_right = refl

then_the_right : val (record here { functions = recursive ∷ first_of_two ∷ [] }) (name_of (codes "G") (at_both (num 9) (function_at (codes "F") (num 30)) ∷ [])) ≡ Raises 3
then_the_right = refl

wrong_number : val (record here { functions = first_of_two ∷ [] }) (function_at (codes "G") (num 1)) ≡ Meaningless
wrong_number = refl

-- a function of the object, and a local object, go before a constant that the package declares behind the body
abbrev seven : Function
seven = record { object = Some 0; name = codes "SEVEN"; formals = []; result = small; value = num 3 }

own_function_first : val (record here { within = Some 0; functions = seven ∷ [] }) (name (codes "SEVEN")) ≡ Gives (Number (pos 3))
own_function_first = refl

own_function_before_variable : val (record here { within = Some 0; variables = object (codes "GET") integer (Number (pos 1)) ∷ [] }) (function_at (codes "GET") (num 5)) ≡ Gives (Number (pos 9))
own_function_before_variable = refl

own_object_first : val (record here { locals = object (codes "SEVEN") integer (Number (pos 2)) ∷ [] }) (name (codes "SEVEN")) ≡ Gives (Number (pos 2))
own_object_first = refl

constant_of_the_package : val here (name (codes "SEVEN")) ≡ Gives (Number (pos 7))
constant_of_the_package = refl

-- ---- `for I in reverse Idx'First .. Idx'Last loop V (I) := N; N := N * 2; end loop; P.B := N > 30;`, with N = 20 and then 40

doubled : val (record here { locals = object (codes "N") integer (Number (pos 20)) ∷ [] }) (two binary.Multiply (name (codes "N")) (num 2)) ≡ Gives (Number (pos 40))
doubled = refl

above_thirty : val (record here { locals = object (codes "N") integer (Number (pos 40)) ∷ [] }) (two binary.Greater (name (codes "N")) (num 30)) ≡ Gives (Truth true)
above_thirty = refl

first_index : static_value package_scope (name_of (codes "IDX") (tick (codes "FIRST") ∷ [])) ≡ Gives (Number (pos 1))
first_index = refl

-- `case I mod 3`, with I from 1 to 4, and `exit when I = 4`
abbrev case_of : ℕ → Val Value
case_of i = val (record here { locals = object (codes "I") integer (Number (pos i)) ∷ [] }) (two binary.Mod (name (codes "I")) (num 3))

cases : (case_of 1 ≡ Gives (Number (pos 1))) × (case_of 2 ≡ Gives (Number (pos 2))) × (case_of 3 ≡ Gives (Number (pos 0))) × (case_of 4 ≡ Gives (Number (pos 1)))
cases = (refl, refl, refl, refl)

-- no value lies in a subtype whose first value is above its last one
null_range : fits (subtype_of 0 1 0) (Number (pos 1)) ≡ false
null_range = refl

-- so what is converted to it or passed for it raises Constraint_Error, also at each bound
null_range_raises : (passed (subtype_of 0 1 0) (Number (pos 1)) ≡ Raises 1) × (passed (subtype_of 0 1 0) (Number (pos 0)) ≡ Raises 1)
null_range_raises = (refl, refl)

-- ---- the barrier of P's entry becomes known, and nothing else changes

abbrev barrier_in : Scope → Option barrier.Barrier
barrier_in s = elim (protected_at s 27) [ Some p ↦ p.barrier | None ↦ None ]

barrier_unknown : barrier_in package_scope ≡ None
barrier_unknown = refl

barrier_known : barrier_in (with_barrier package_scope 27 (barriers.Component 0)) ≡ Some (barriers.Component 0)
barrier_known = refl

no_barrier_of_a_type : with_barrier package_scope 17 (barriers.Always true) ≡ package_scope
no_barrier_of_a_type = refl

-- ---- in its own body P has no operations behind its name, and outside all of them

abbrev operations_in : Scope → List Operation
operations_in s = operations_or (protected_at s 27) []

none_inside : operations_in (with_operations package_scope 27 []) ≡ []
none_inside = refl

not_found_inside : standing_of (with_operations package_scope 27 []) (identifier (codes "P")) (selectors_of (dot (codes "GET") ∷ [])) ≡ standing.Doubtful
not_found_inside = refl

all_of_them_outside : with_operations (with_operations package_scope 27 []) 27 (operations_in package_scope) ≡ package_scope
all_of_them_outside = refl

no_operations_of_a_type : with_operations package_scope 17 (operations_in package_scope) ≡ package_scope
no_operations_of_a_type = refl
