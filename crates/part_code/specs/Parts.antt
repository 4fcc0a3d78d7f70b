-- Where the words of a part of a value begin, and which parts a value of a shape has (docs/FORMATS.md).
use Rattle.std.specs.Prelude.{◌≡◌, ℕ, ◌+◌, ◌*◌, ◌<◌, List, [], ◌∷◌, Option, Some, None, ⊤}
use Rattle.types.specs.Layouts.{field_offset}
use Rattle.types.specs.Shapes.{Shape, Repeated, Grouped, Shapeless, shape_or_none, words}
use Rattle.expr_soundness.specs.meaning.specs.Works.{Part, Element, Field}
use Rattle.expr_code.specs.Locating.{shape_in}

abbrev pub inner : Shape → Part → Shape
inner (Repeated n x) (Element k) = x
inner (Grouped parts) (Field name) = shape_or_none (shape_in parts name)
inner x part = Shapeless

abbrev pub place_or_none : Option ℕ → ℕ
place_or_none (Some n) = n
place_or_none None = 0

abbrev pub step : Shape → Part → ℕ
step (Repeated n x) (Element k) = k * words x
step (Grouped parts) (Field name) = place_or_none (field_offset parts name)
step x part = 0

abbrev pub ShapeHasPart : Shape → Part → Type 0
ShapeHasPart (Repeated n x) (Element k) = k < n
ShapeHasPart (Grouped parts) (Field name) = (x : Shape) × (o : ℕ) × (shape_in parts name ≡ Some x) × (field_offset parts name ≡ Some o)
ShapeHasPart x part = ⊥

abbrev pub part_offset : Shape → List Part → ℕ
part_offset x [] = 0
part_offset x (part ∷ parts) = step x part + part_offset (inner x part) parts

abbrev pub part_shape : Shape → List Part → Shape
part_shape x [] = x
part_shape x (part ∷ parts) = part_shape (inner x part) parts

abbrev pub HasParts : Shape → List Part → Type 0
HasParts x [] = ⊤
HasParts x (part ∷ parts) = ShapeHasPart x part × HasParts (inner x part) parts
