-- Values that lie in their subtypes part by part, and values that don't, worked by computation.
use Rattle.std.proofs.Common.{◌≡◌, ℕ, ℤ, [], ◌∷◌, Some, true, false, refl}
use Rattle.std.specs.Prelude.{pos, codes}
use Rattle.meaning.specs.types.specs.declared.entity.Subtype.{Subtype}
use Rattle.meaning.specs.types.specs.Entities.{Integers, Arrays, Records, OfType}
use Rattle.meaning.specs.types.specs.Scopes.{Scope, standard, with_name, boolean, number_of}
use Rattle.meaning.specs.types.specs.Values.{Value, Number, Truth, Array, Record, NoValues, MoreValues, NoFields, MoreFields}
use Rattle.expr_soundness.specs.Lying.{lies}

-- ---- a scope: `type Small is range 0 .. 9; type Vec is array (1 .. 3) of Small range 1 .. 7; type Pair is record A : Small; B : Boolean; end record;`

abbrev numbered : ℕ → ℕ → ℕ → Subtype
numbered number first last = record { type_number = number; first = pos first; last = pos last }

abbrev small : Subtype
small = numbered 10 0 9

abbrev odd : Subtype
odd = numbered 10 1 7

abbrev vec : Subtype
vec = numbered 11 0 0

abbrev pair : Subtype
pair = numbered 12 0 0

abbrev here : Scope
here =
    with_name
    (with_name (with_name standard (codes "SMALL") (OfType Integers small)) (codes "VEC") (OfType (Arrays (numbered 0 1 3) 3 odd) vec))
    (codes "PAIR")
    (OfType (Records (record { name = codes "A"; subtype = small } ∷ record { name = codes "B"; subtype = boolean } ∷ [])) pair)

small_stands_there : number_of here (codes "SMALL") ≡ Some 10
small_stands_there = refl

pair_stands_there : number_of here (codes "PAIR") ≡ Some 12
pair_stands_there = refl

-- ---- values in their subtypes, part by part

abbrev three : ℤ → ℤ → ℤ → Value
three a b c = Array (MoreValues (Number a) (MoreValues (Number b) (MoreValues (Number c) NoValues)))

abbrev pair_of : ℤ → Value
pair_of a = Record (MoreFields (codes "A") (Number a) (MoreFields (codes "B") (Truth true) NoFields))

array_lies : lies here vec (three (pos 1) (pos 7) (pos 3)) ≡ true
array_lies = refl

-- 8 is no value of Odd, of which the components are, though it is one of its type
component_outside : lies here vec (three (pos 1) (pos 8) (pos 3)) ≡ false
component_outside = refl

record_lies : lies here pair (pair_of (pos 9)) ≡ true
record_lies = refl

field_outside : lies here pair (pair_of (pos 10)) ≡ false
field_outside = refl

-- a composite value of another type than an array or a record
no_composite : lies here small (three (pos 1) (pos 1) (pos 1)) ≡ false
no_composite = refl
