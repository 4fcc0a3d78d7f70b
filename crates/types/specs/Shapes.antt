-- The shape of a subtype: its form with the shapes of its parts. It tells the value of an object without initial value, and which words the values of the
-- subtype take.
use Rattle.std.specs.Prelude.{ℕ, zero, suc, ◌+◌, ◌*◌, ℤ, pos, negsuc, Bool, true, false, List, [], ◌∷◌, ◌++◌, take, drop, slice_get, Option, Some, None, ◌&&◌, nat_eq, bytes_eq}
use Rattle.types.specs.declared.entity.Subtype.{Subtype}
use Rattle.types.specs.declared.entity.RecordComponent.{RecordComponent}
use Rattle.types.specs.Entities.{TypeForm, Integers, Booleans, Times, Spans, Arrays, Records, Entity, OfType}
use Rattle.types.specs.Scopes.{Scope}
use Rattle.types.specs.Values.{Value, Number, Truth, Array, Record, Values, NoValues, MoreValues, Fields, NoFields, MoreFields}

mutual
  pub data Shape : Type 0 where
    -- integers of a subtype with this first value
    Ranged : (first : ℤ) → Shape
    Logical : Shape
    -- times and spans of time
    Timed : Shape
    Repeated : (length : ℕ) → Shape → Shape
    Grouped : Shapes → Shape
    -- what is no type
    Shapeless : Shape

  pub data Shapes : Type 0 where
    NoShapes : Shapes
    MoreShapes : (name : List ℕ) → Shape → Shapes → Shapes

-- an integer subtype has its own first value, which need not be that of its type
abbrev pub narrowed : Subtype → Shape → Shape
narrowed t (Ranged first) = Ranged t.first
narrowed t x = x

abbrev pub shape_or_none : Option Shape → Shape
shape_or_none (Some x) = x
shape_or_none None = Shapeless

-- the shape of a subtype, where those of the types stand at the types' numbers
abbrev pub shape_among : List Shape → Subtype → Shape
shape_among known t = narrowed t (shape_or_none (slice_get known t.type_number))

abbrev pub component_shapes : List Shape → List RecordComponent → Shapes
component_shapes known [] = NoShapes
component_shapes known (c ∷ cs) = MoreShapes c.name (shape_among known c.subtype) (component_shapes known cs)

abbrev pub form_shape : List Shape → Subtype → TypeForm → Shape
form_shape known t Integers = Ranged t.first
form_shape known t Booleans = Logical
form_shape known t Times = Timed
form_shape known t Spans = Timed
form_shape known t (Arrays index length element) = Repeated length (shape_among known element)
form_shape known t (Records components) = Grouped (component_shapes known components)

-- the parts of a type are of earlier types
abbrev pub entity_shape : List Shape → Entity → Shape
entity_shape known (OfType form t) = form_shape known t form
entity_shape known e = Shapeless

abbrev pub shapes_after : List Shape → Scope → List Shape
shapes_after known [] = known
shapes_after known (n ∷ rest) = shapes_after (known ++ entity_shape known n.entity ∷ []) rest

-- for each name the shape of the type that it is
abbrev pub shapes : Scope → List Shape
shapes s = shapes_after [] s

abbrev pub shape_of : Scope → Subtype → Shape
shape_of s t = shape_among (shapes s) t

-- ---- objects without initial value (RM 3.3.1)

abbrev pub repeated : ℕ → Value → Values
repeated zero v = NoValues
repeated (suc n) v = MoreValues v (repeated n v)

abbrev mutual
  pub initial_of : Shape → Value
  initial_of (Ranged first) = Number first
  initial_of Logical = Truth false
  initial_of Timed = Number (pos 0)
  initial_of (Repeated length x) = Array (repeated length (initial_of x))
  initial_of (Grouped parts) = Record (initial_fields parts)
  initial_of Shapeless = Record NoFields

  pub initial_fields : Shapes → Fields
  initial_fields NoShapes = NoFields
  initial_fields (MoreShapes name x rest) = MoreFields name (initial_of x) (initial_fields rest)

-- the value of an object of the subtype that is given none: First, False, 0, or that of each component
abbrev pub initial : Scope → Subtype → Value
initial s t = initial_of (shape_of s t)

-- ---- whether a value is of a shape

abbrev pub count_values : Values → ℕ
count_values NoValues = 0
count_values (MoreValues v rest) = suc (count_values rest)

abbrev pub all_values : (Value → Bool) → Values → Bool
all_values test NoValues = true
all_values test (MoreValues v rest) = test v && all_values test rest

abbrev mutual
  pub has_shape : Shape → Value → Bool
  has_shape (Ranged first) (Number z) = true
  has_shape Logical (Truth b) = true
  has_shape Timed (Number z) = true
  has_shape (Repeated length x) (Array vs) = nat_eq (count_values vs) length && all_values (has_shape x) vs
  has_shape (Grouped parts) (Record fs) = have_shapes parts fs
  has_shape Shapeless (Record NoFields) = true
  has_shape x v = false

  pub have_shapes : Shapes → Fields → Bool
  have_shapes NoShapes NoFields = true
  have_shapes (MoreShapes name x rest) (MoreFields own v fs) = bytes_eq own name && (has_shape x v && have_shapes rest fs)
  have_shapes xs fs = false

-- ---- words (docs/FORMATS.md): a scalar takes one, a composite those of its components in order

abbrev mutual
  pub words : Shape → ℕ
  words (Ranged first) = 1
  words Logical = 1
  words Timed = 1
  words (Repeated length x) = length * words x
  words (Grouped parts) = words_of_parts parts
  words Shapeless = 0

  pub words_of_parts : Shapes → ℕ
  words_of_parts NoShapes = 0
  words_of_parts (MoreShapes name x rest) = words x + words_of_parts rest

-- False is 0, True is 1
abbrev pub word_of : Bool → ℤ
word_of false = pos 0
word_of true = pos 1

abbrev mutual
  pub value_words : Value → List ℤ
  value_words (Number z) = z ∷ []
  value_words (Truth b) = word_of b ∷ []
  value_words (Array vs) = values_words vs
  value_words (Record fs) = fields_words fs

  pub values_words : Values → List ℤ
  values_words NoValues = []
  values_words (MoreValues v rest) = value_words v ++ values_words rest

  pub fields_words : Fields → List ℤ
  fields_words NoFields = []
  fields_words (MoreFields name v rest) = value_words v ++ fields_words rest

-- ---- and back: the value of a shape that words stand for

abbrev pub leading_word : List ℤ → ℤ
leading_word [] = pos 0
leading_word (z ∷ rest) = z

abbrev pub is_set : ℤ → Bool
is_set (pos zero) = false
is_set (pos (suc n)) = true
is_set (negsuc n) = true

abbrev pub values_back : ℕ → ℕ → (List ℤ → Value) → List ℤ → Values
values_back zero width back ws = NoValues
values_back (suc n) width back ws = MoreValues (back (take width ws)) (values_back n width back (drop width ws))

abbrev mutual
  pub value_back : Shape → List ℤ → Value
  value_back (Ranged first) ws = Number (leading_word ws)
  value_back Logical ws = Truth (is_set (leading_word ws))
  value_back Timed ws = Number (leading_word ws)
  value_back (Repeated length x) ws = Array (values_back length (words x) (value_back x) ws)
  value_back (Grouped parts) ws = Record (fields_back parts ws)
  value_back Shapeless ws = Record NoFields

  pub fields_back : Shapes → List ℤ → Fields
  fields_back NoShapes ws = NoFields
  fields_back (MoreShapes name x rest) ws = MoreFields name (value_back x (take (words x) ws)) (fields_back rest (drop (words x) ws))
