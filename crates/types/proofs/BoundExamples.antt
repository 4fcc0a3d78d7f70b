-- The bounds of expressions of a small program, worked by computation.
use Rattle.std.proofs.Common.{◌≡◌, ℤ, List, [], ◌∷◌, Some, None, true, false, refl, ap}
use Rattle.std.specs.Prelude.{pos, negsuc, codes, ◌≢◌}
use Rattle.ada_tree.specs.declared.expression.BinaryOperator.TheVariants as binary
use Rattle.ada_tree.specs.declared.expression.UnaryOperator.TheVariants as unary
use Rattle.ada_tree.specs.declared.declaration.Mode.TheVariants as mode
use Rattle.ada_tree.specs.ExpressionTree.{ExprTree, Parenthesized, Conditional, Unary, Binary, NoElsifValues, MoreElsifValues}
use Rattle.types.specs.declared.entity.Subtype.{Subtype}
use Rattle.types.specs.declared.entity.Role.TheVariants as role
use Rattle.types.specs.declared.entity.Value.TheVariants as scalar
use Rattle.types.specs.Entities.{Profile, Integers, Arrays, Records, OfType, OfSubtype, Object, Constant, Subprogram, Protected}
use Rattle.types.specs.Evaluating.{val}
use Rattle.types.specs.Evaluations.{Gives}
use Rattle.types.specs.Places.{Place}
use Rattle.types.specs.Scopes.{Scope, Named, standard, with_name, with_real_time, with_control_io, integer, boolean, number_of}
use Rattle.types.specs.Shapes.{initial}
use Rattle.types.specs.Statics.{static_place}
use Rattle.types.specs.Values.{Number, is_within}
use Rattle.types.specs.Bounds.{base_bounds, bounds_of}
use Rattle.types.proofs.Trees.{num, name, name_of, at, dot, tick}

-- ---- a scope: the units, `type Small is range 0 .. 9; subtype Odd is Small range 1 .. 7; type Vec is array (1 .. 3) of Odd;
-- type Pair is record A : Small; B : Boolean; end record; Seven : constant Small := 7; X : Small; Y : Odd; V : Vec; Q : Pair;
-- function F (N : Integer) return Odd; protected P is function Get return Small; .. end P;`, a loop parameter I and a formal N

abbrev small : Subtype
small = record { type_number = 17; first = pos 0; last = pos 9 }

abbrev odd : Subtype
odd = record { type_number = 17; first = pos 1; last = pos 7 }

abbrev vec : Subtype
vec = record { type_number = 19; first = pos 0; last = pos 0 }

abbrev pair : Subtype
pair = record { type_number = 20; first = pos 0; last = pos 0 }

abbrev declared : Scope → List Named → Scope
declared s [] = s
declared s (n ∷ rest) = declared (with_name s n.name n.entity) rest

abbrev result_small : Profile
result_small = record { formals = []; result = Some small }

abbrev here : Scope
here =
    declared
    (with_control_io (with_real_time standard))
    (record { name = codes "SMALL"; entity = OfType Integers small }
    ∷ record { name = codes "ODD"; entity = OfSubtype odd }
    ∷ record { name = codes "VEC"; entity = OfType (Arrays (record { type_number = 0; first = pos 1; last = pos 3 }) 3 odd) vec }
    ∷ record {
      name = codes "PAIR";
      entity = OfType (Records
          (record { name = codes "A"; subtype = small } ∷ record { name = codes "B"; subtype = boolean } ∷ [])) pair;
    }
    ∷ record { name = codes "SEVEN"; entity = Constant small (Some (scalar.Number (pos 7))) }
    ∷ record { name = codes "X"; entity = Object role.Variable small }
    ∷ record { name = codes "Y"; entity = Object role.Variable odd }
    ∷ record { name = codes "V"; entity = Object role.Variable vec }
    ∷ record { name = codes "Q"; entity = Object role.Variable pair }
    ∷ record { name = codes "F"; entity = Subprogram (record { formals = record { mode = mode.In; subtype = integer } ∷ []; result = Some odd }) }
    ∷ record {
      name = codes "P";
      entity = Protected (record {
        number = 0;
        ceiling = 10;
        operations = record { name = codes "GET"; is_entry = false; profile = result_small } ∷ [];
        components = [];
        barrier = None;
      });
    }
    ∷ record { name = codes "I"; entity = Object role.LoopParameter (record small { last = pos 4 }) }
    ∷ record { name = codes "N"; entity = Object role.In odd }
    ∷ [])

small_stands_there : number_of here (codes "SMALL") ≡ Some 17
small_stands_there = refl

types_stand_there : number_of here (codes "PAIR") ≡ Some 20
types_stand_there = refl

-- ---- static expressions: their value, twice

literal : bounds_of here (num 5) ≡ (pos 5, pos 5)
literal = refl

constant : bounds_of here (name (codes "SEVEN")) ≡ (pos 7, pos 7)
constant = refl

negated : bounds_of here (Unary unary.Minus 0 (name (codes "SEVEN"))) ≡ (negsuc 6, negsuc 6)
negated = refl

-- `Seven * 2 - 4`
operations : bounds_of here (Binary binary.Subtract (Binary binary.Multiply (name (codes "SEVEN")) (num 2)) (num 4)) ≡ (pos 10, pos 10)
operations = refl

attribute : bounds_of here (name_of (codes "ODD") (tick (codes "LAST") ∷ [])) ≡ (pos 7, pos 7)
attribute = refl

length_of_an_array : bounds_of here (name_of (codes "V") (tick (codes "LENGTH") ∷ [])) ≡ (pos 3, pos 3)
length_of_an_array = refl

-- one whose evaluation raises: the base range
raising : bounds_of here (Binary binary.Divide (num 1) (num 0)) ≡ base_bounds
raising = refl

-- ---- names: the bounds of the subtype

variable : bounds_of here (name (codes "X")) ≡ (pos 0, pos 9)
variable = refl

of_a_narrower_subtype : bounds_of here (name (codes "Y")) ≡ (pos 1, pos 7)
of_a_narrower_subtype = refl

loop_parameter : bounds_of here (name (codes "I")) ≡ (pos 0, pos 4)
loop_parameter = refl

formal : bounds_of here (name (codes "N")) ≡ (pos 1, pos 7)
formal = refl

component_of_an_array : bounds_of here (name_of (codes "V") (at (num 2) ∷ [])) ≡ (pos 1, pos 7)
component_of_an_array = refl

component_of_a_record : bounds_of here (name_of (codes "Q") (dot (codes "A") ∷ [])) ≡ (pos 0, pos 9)
component_of_a_record = refl

call : bounds_of here (name_of (codes "F") (at (name (codes "X")) ∷ [])) ≡ (pos 1, pos 7)
call = refl

call_of_an_operation : bounds_of here (name_of (codes "P") (dot (codes "GET") ∷ [])) ≡ (pos 0, pos 9)
call_of_an_operation = refl

-- `Odd (X)`: the bounds of Odd, for an operand of 0 .. 9
conversion : bounds_of here (name_of (codes "ODD") (at (name (codes "X")) ∷ [])) ≡ (pos 1, pos 7)
conversion = refl

input : bounds_of here (name_of (codes "READ") (at (num 1) ∷ [])) ≡ base_bounds
input = refl

-- ---- operators that are not static

-- `X mod 4`, and `X mod Seven`
modulus : bounds_of here (Binary binary.Mod (name (codes "X")) (num 4)) ≡ (pos 0, pos 3)
modulus = refl

modulus_by_a_constant : bounds_of here (Binary binary.Mod (name (codes "X")) (name (codes "SEVEN"))) ≡ (pos 0, pos 6)
modulus_by_a_constant = refl

modulus_by_one : bounds_of here (Binary binary.Mod (name (codes "X")) (num 1)) ≡ (pos 0, pos 0)
modulus_by_one = refl

-- the right operand is negative, 0, or not static
modulus_by_a_negative : bounds_of here (Binary binary.Mod (name (codes "X")) (Parenthesized 0 (Unary unary.Minus 0 (num 4)))) ≡ base_bounds
modulus_by_a_negative = refl

modulus_by_zero : bounds_of here (Binary binary.Mod (name (codes "X")) (num 0)) ≡ base_bounds
modulus_by_zero = refl

modulus_by_a_variable : bounds_of here (Binary binary.Mod (name (codes "X")) (name (codes "Y"))) ≡ base_bounds
modulus_by_a_variable = refl

remainder : bounds_of here (Binary binary.Rem (name (codes "X")) (num 4)) ≡ base_bounds
remainder = refl

sum : bounds_of here (Binary binary.Add (name (codes "X")) (num 1)) ≡ base_bounds
sum = refl

-- of a chain the last operator decides: `X + 1 mod 4` as `(X + 1) mod 4` and as `X + (1 mod 4)`
modulus_at_last : bounds_of here (Binary binary.Mod (Parenthesized 0 (Binary binary.Add (name (codes "X")) (num 1))) (num 4)) ≡ (pos 0, pos 3)
modulus_at_last = refl

modulus_before : bounds_of here (Binary binary.Multiply (Binary binary.Mod (name (codes "X")) (num 4)) (num 2)) ≡ base_bounds
modulus_before = refl

signed : bounds_of here (Unary unary.Plus 0 (name (codes "X"))) ≡ (pos 0, pos 9)
signed = refl

negated_variable : bounds_of here (Unary unary.Minus 0 (name (codes "X"))) ≡ base_bounds
negated_variable = refl

-- ---- parentheses and if expressions

in_parentheses : bounds_of here (Parenthesized 0 (name (codes "Y"))) ≡ (pos 1, pos 7)
in_parentheses = refl

abbrev chosen : ExprTree → ExprTree → ExprTree
chosen a b = Conditional 0 (name (codes "TRUE")) a NoElsifValues b

-- `(if True then Y else 12)`: over all parts, whatever the condition is
if_expression : bounds_of here (chosen (name (codes "Y")) (num 12)) ≡ (pos 1, pos 12)
if_expression = refl

-- `(if True then Y elsif False then -3 else X mod 2)`
with_elsif :
    bounds_of here
    (Conditional 0 (name (codes "TRUE")) (name (codes "Y")) (MoreElsifValues (name (codes "FALSE")) (Unary unary.Minus 0 (num 3)) NoElsifValues)
    (Binary binary.Mod (name (codes "X")) (num 2)))
    ≡ (negsuc 2, pos 7)
with_elsif = refl

inner_if_expression : bounds_of here (chosen (chosen (num 1) (num 2)) (name (codes "N"))) ≡ (pos 1, pos 7)
inner_if_expression = refl

-- ---- a wrong body: an object's initial value twice

initial_value : initial here small ≡ Number (pos 0)
initial_value = refl

distinct : (let wide : ℤ × ℤ = (pos 0, pos 9) in wide) ≡ (pos 0, pos 0) → ⊥
distinct h = let last : pos 9 ≡ pos 0 = ap (λ x. x.1) h in cc

not_the_initial_value : bounds_of here (name (codes "X")) ≢ (pos 0, pos 0)
not_the_initial_value h = distinct h

-- nor could it be: where X is 5, its value doesn't lie between 0 and 0
abbrev later : Place
later = record (static_place here) { variables = record { name = codes "X"; subtype = small; value = Number (pos 5) } ∷ [] }

later_value : val later (name (codes "X")) ≡ Gives (Number (pos 5))
later_value = refl

outside_the_initial_value : is_within (pos 0) (pos 0) (pos 5) ≡ false
outside_the_initial_value = refl

inside_the_bounds : is_within (pos 0) (pos 9) (pos 5) ≡ true
inside_the_bounds = refl

-- ---- literals beyond the base range, which the lexer refuses

-- what `+` gives isn't checked, so its bounds are those of its operand
abbrev beyond : ExprTree
beyond = Unary unary.Plus 0 (chosen (num 9223372036854775808) (num 0))

beyond_its_bounds : bounds_of here beyond ≡ (pos 0, pos 9223372036854775808)
beyond_its_bounds = refl

beyond_is_worth : val (static_place here) beyond ≡ Gives (Number (pos 9223372036854775808))
beyond_is_worth = refl
