-- Values (RM 3.2 to 3.8): a number, a truth value, the components of an array, the named components of a record. Time and Time_Span are numbers of
-- microseconds.
use Rattle.std.specs.Prelude.{ℕ, zero, suc, ℤ, Bool, true, List, Option, Some, None, bytes_eq, int_le, ◌&&◌, if◌then◌else◌}
use Rattle.types.specs.declared.entity.Subtype.{Subtype}
use Rattle.types.specs.declared.entity.Value.{Value as Scalar}
use Rattle.types.specs.declared.entity.Value.TheVariants as scalar

mutual
  pub data Value : Type 0 where
    Number : ℤ → Value
    Truth : Bool → Value
    Array : Values → Value
    Record : Fields → Value

  pub data Values : Type 0 where
    NoValues : Values
    MoreValues : Value → Values → Values

  pub data Fields : Type 0 where
    NoFields : Fields
    MoreFields : (name : List ℕ) → Value → Fields → Fields

-- the value of a static expression as a value
abbrev pub value_of : Scalar → Value
value_of (scalar.Number z) = Number z
value_of (scalar.Truth b) = Truth b

abbrev pub is_within : ℤ → ℤ → ℤ → Bool
is_within first last z = int_le first z && int_le z last

-- whether a value lies in a subtype (RM 3.2); a composite one does, since its components were checked when they were stored
abbrev pub fits : Subtype → Value → Bool
fits t (Number z) = is_within t.first t.last z
fits t v = true

-- the component at a position, from 0 on (RM 4.1.1)
abbrev pub element_at : Values → ℕ → Option Value
element_at NoValues n = None
element_at (MoreValues v rest) zero = Some v
element_at (MoreValues v rest) (suc n) = element_at rest n

-- the component of this name (RM 4.1.3)
abbrev pub field_of : Fields → List ℕ → Option Value
field_of NoFields name = None
field_of (MoreFields own v rest) name = if bytes_eq own name then Some v else field_of rest name
