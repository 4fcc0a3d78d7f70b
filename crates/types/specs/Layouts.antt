-- Where objects and components stand (docs/FORMATS.md): one behind the other, in the order of their declarations.
use Rattle.base.specs.declared.limits.TheConstants.{WORDS}
use Rattle.std.specs.Prelude.{suc, min, ℕ, ◌+◌, ◌*◌, List, [], ◌∷◌, take, Option, Some, None, bytes_eq, if◌then◌else◌}
use Rattle.types.specs.declared.entity.Subtype.{Subtype}
use Rattle.types.specs.declared.entity.RecordComponent.{RecordComponent}
use Rattle.types.specs.Scopes.{Scope}
use Rattle.types.specs.Shapes.{Shape, Shapes, NoShapes, MoreShapes, words, shape_of, shapes, component_shapes}

-- a number of words, where one more than a program may have stands for all larger ones
abbrev pub capped : ℕ → ℕ
capped n = min n (suc WORDS)

-- the words of an object of a subtype
abbrev pub words_of : Scope → Subtype → ℕ
words_of s t = words (shape_of s t)

-- ---- objects one behind the other, by their words

abbrev pub total : List ℕ → ℕ
total [] = 0
total (w ∷ ws) = w + total ws

-- the first word of the object at a position: behind all objects before it
abbrev pub first_word : List ℕ → ℕ → ℕ
first_word ws n = total (take n ws)

-- what a layout says: the words of each object, and how many there may be together
pub record Objects : Type 0 where
  pub words : List ℕ
  pub limit : ℕ

-- ---- components

-- the first word of the component of an array at a position, and of the component of a record with this name, counted from the object's own
abbrev pub element_offset : Shape → ℕ → ℕ
element_offset element n = n * words element

abbrev pub further : ℕ → Option ℕ → Option ℕ
further words None = None
further words (Some n) = Some (words + n)

abbrev pub field_offset : Shapes → List ℕ → Option ℕ
field_offset NoShapes name = None
field_offset (MoreShapes own x rest) name = if bytes_eq own name then Some 0 else further (words x) (field_offset rest name)

abbrev pub component_offset : Scope → List RecordComponent → List ℕ → Option ℕ
component_offset s components name = field_offset (component_shapes (shapes s) components) name
