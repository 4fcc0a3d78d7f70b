-- The laws of layouts and words, as statements; each is the contract of a public function.
use Rattle.std.specs.Prelude.{◌≡◌, ℕ, ◌+◌, ◌<◌, ◌≤◌, List, ◌++◌, length, take, drop, slice_get, true, Some}
use Rattle.types.specs.declared.entity.Subtype.{Subtype}
use Rattle.types.specs.Scopes.{Scope}
use Rattle.types.specs.Values.{Value, Values, Fields, element_at, field_of}
use Rattle.types.specs.Shapes.{Shape, Shapes, all_values, has_shape, have_shapes, initial_of, shape_of, value_words, values_words, fields_words, value_back, words}
use Rattle.types.specs.Layouts.{total, first_word, element_offset, field_offset}

-- an object of w words ends before each later one begins, and within the words of all
pub record LiesApart (ws : List ℕ) (m w : ℕ) : Type 0 where
  pub before : (n : ℕ) → m < n → first_word ws m + w ≤ first_word ws n
  pub within : first_word ws m + w ≤ total ws

abbrev pub ObjectsLieApart : Type 0
ObjectsLieApart = (ws : List ℕ) (m w : ℕ) → slice_get ws m ≡ Some w → LiesApart ws m w

-- a value of a shape takes the words of the shape, and comes back from them; an object without initial value has one
pub record HasWords (x : Shape) (v : Value) : Type 0 where
  pub sized : length (value_words v) ≡ words x
  pub back : value_back x (value_words v) ≡ v

abbrev pub ValuesHaveWords : Type 0
ValuesHaveWords = (x : Shape) (v : Value) → has_shape x v ≡ true → HasWords x v

abbrev pub InitialValuesHaveShape : Type 0
InitialValuesHaveShape = (x : Shape) → has_shape x (initial_of x) ≡ true

-- the shape of a subtype is told by the names up to that of its type: those behind it change nothing
abbrev pub ShapesStay : Type 0
ShapesStay = (s more : Scope) (t : Subtype) → t.type_number < length s → shape_of (s ++ more) t ≡ shape_of s t

-- the words of a component stand at its place among those of the composite value
pub record PartsHavePlaces : Type 0 where
  pub elements : (x : Shape) (vs : Values) (n : ℕ) (v : Value) → all_values (has_shape x) vs ≡ true → element_at vs n ≡ Some v
      → take (words x) (drop (element_offset x n) (values_words vs)) ≡ value_words v
  pub fields : (parts : Shapes) (fs : Fields) (name : List ℕ) (v : Value) (place : ℕ)
      → have_shapes parts fs ≡ true → field_of fs name ≡ Some v → field_offset parts name ≡ Some place
      → take (length (value_words v)) (drop place (fields_words fs)) ≡ value_words v
