-- What it is that code finds a part of an object (RM 4.1.1, 4.1.3): its address stands on the operand stack.
use Rattle.std.specs.Prelude.{◌≡◌, ◌⊎◌, ℕ, suc, ◌+◌, ◌*◌, ◌≤◌, pos, ℤ, ◌+ℤ◌, ◌-ℤ◌, ◌*ℤ◌, unsigned_abs, List, ◌∷◌, length, true, Option, None, Some, bytes_eq, if◌then◌else◌}
use Rattle.base.specs.declared.schedule.ScheduleLine.{ScheduleLine}
use Rattle.kernel.specs.State.{Kernel}
use Rattle.kernel.specs.Counting.{Spends}
use Rattle.ada_tree.specs.ExpressionTree.{SelectorTrees, NoSelectors, MoreSelectors, Component, Arguments, MoreArguments, NoArguments, Value}
use Rattle.image.specs.Sections.{Sections}
use Rattle.image.specs.Frames.{Words, Frame, region_words}
use Rattle.image.specs.Steps.{behaviour}
use Rattle.image.specs.declared.instruction.Operation.{Operation}
use Rattle.image.specs.declared.instruction.Operation.TheVariants as op
use Rattle.image.specs.declared.instruction.Region.{Region}
use Rattle.types.specs.declared.entity.RecordComponent.{RecordComponent}
use Rattle.types.specs.declared.entity.Subtype.{Subtype}
use Rattle.types.specs.Entities.{Arrays, Records}
use Rattle.types.specs.Scopes.{form_at}
use Rattle.types.specs.Standings.{component_of}
use Rattle.types.specs.Layouts.{field_offset}
use Rattle.types.specs.Shapes.{Shape, Shapes, NoShapes, MoreShapes, Repeated, Grouped, has_shape, words}
use Rattle.types.specs.Evaluations.{Val, Gives, Raises, Meaningless, and_then}
use Rattle.types.specs.Places.{Meaning, IsObject, Place}
use Rattle.types.specs.Evaluating.{Calls, part_with}
use Rattle.expr_soundness.specs.meaning.specs.SameMeaning.{frames_of}
use Rattle.expr_code.specs.Views.{At, in_frame, placed, Sight, View}
use Rattle.expr_code.specs.Coming.{Comes, most_steps}
use Rattle.expr_code.specs.Computing.{ComputesChecked, ComesToNumber, Library}
use Rattle.expr_code.specs.Naming.{Lies}
use Rattle.expr_code.specs.declared.part.TheConstants.{NEAR}

-- what a name means before it ends: that of its parts, from left to right
abbrev pub located : Calls → Place → Meaning → SelectorTrees → Val Meaning
located calls p m NoSelectors = Gives m
located calls p m (MoreSelectors x rest) = and_then (part_with calls p m x) (λ n. located calls p n rest)

-- the shape of the component of this name
abbrev pub shape_in : Shapes → List ℕ → Option Shape
shape_in NoShapes name = None
shape_in (MoreShapes own x rest) name = if bytes_eq own name then Some x else shape_in rest name

module _ (i : Sections) (schedule : List ScheduleLine) (k : Kernel) (t : ℕ) (m : Words) where
  -- in at most n steps of its own the frame comes to the place `to` with the address of an object or part of this subtype and shape in this region on its
  -- stack, or raises
  abbrev pub Finds : Frame → List Frame → Region → Subtype → Shape → (n to : ℕ) → (base : List ℤ) → Val Meaning → Type 0
  Finds f fs region r x n to base (Gives (IsObject s v)) =
      (address : ℕ)
      × Lies (region_words i region m f) address v
      × (has_shape x v ≡ true)
      × (s ≡ r)
      × Spends (behaviour i schedule) t frames_of (most_steps i) (suc (length fs)) n k (in_frame m f fs) k (in_frame m (placed f to (pos address ∷ base)) fs)
  Finds f fs region r x n to base (Gives meaning) = ⊥
  Finds f fs region r x n to base (Raises e) = Comes i schedule k t m f fs n to (λ (meaning : Meaning). base) (Raises e)
  Finds f fs region r x n to base Meaningless = Unit {0}

-- ---- numbers near to addresses

-- What is added to an address in front of a path is this near to 0, so that no sum on the way passes the base range.
abbrev pub IsNear : ℤ → Type 0
IsNear z = unsigned_abs z ≤ NEAR

-- as near to 0 as the distance of two numbers that are near
abbrev pub IsClose : ℤ → Type 0
IsClose z = unsigned_abs z ≤ 2 * NEAR

-- ---- from the address of an object to that of its part, where the number on the operand stack has so many more, `shift` in front and `next` behind

module _ (i : Sections) where
  -- two instructions, one behind the other
  abbrev pub AreTwo : (from to : ℕ) → (first second : Operation) → Type 0
  AreTwo from to first second = At i from first × At i (from + 1) second × (to ≡ from + 2)

  -- the offset of a component of a record, added; or nothing, where the number on the operand stack has it already
  abbrev pub IsAtOffset : (from to offset : ℕ) → (shift next : ℤ) → Type 0
  IsAtOffset from to offset shift next = (AreTwo from to (op.Push (pos offset)) op.Add × (next ≡ shift)) ⊎ ((to ≡ from) × (next ≡ shift -ℤ pos offset))

  -- an index less the first one; or the index itself, where the number has less by the words in front of the first one
  abbrev pub IsLessFirst : (from to : ℕ) → (first : ℤ) → (size : ℕ) → (shift next : ℤ) → Type 0
  IsLessFirst from to first size shift next =
      (AreTwo from to (op.Push first) op.Subtract × (next ≡ shift)) ⊎ ((to ≡ from) × (next ≡ shift +ℤ first *ℤ pos size))

  -- an index is multiplied by the words of a component: nothing is added where it has one
  abbrev pub IsByWords : (from to : ℕ) → (size : ℕ) → Type 0
  IsByWords from to size = AreTwo from to (op.Push (pos size)) op.Multiply ⊎ ((size ≡ 1) × (to ≡ from))

  -- what makes of the address of an array and a checked index above it the address of the component
  pub record IsOffset (from to : ℕ) (first : ℤ) (size : ℕ) (shift next : ℤ) : Type 0 where
    pub counted : ℕ
    pub scaled : ℕ
    pub less : IsLessFirst from counted first size shift next
    pub product : IsByWords counted scaled size
    pub add : At i scaled op.Add
    pub end : to ≡ scaled + 1

-- ---- paths

-- Code that goes from the address of an object or part of this subtype and shape along selectors, above which the number on the operand stack lies by `shift`:
-- for a component of a record its offset, for one of an array its index, checked, and what makes of it an address. At the end the number is the address.
module _ (i : Sections) (library : Library) (sight : Sight) where
  abbrev pub IsPath : (from to : ℕ) → (shift : ℤ) → Subtype → Shape → SelectorTrees → (last : Subtype) → (end : Shape) → Type 0
  IsPath from to shift s x NoSelectors last end = (from ≡ to) × (x ≡ end) × (s ≡ last) × (shift ≡ pos 0)
  IsPath from to shift s x (MoreSelectors (Component name) rest) last end =
      (components : List RecordComponent)
      × (parts : Shapes)
      × (part : Subtype)
      × (inner : Shape)
      × (offset : ℕ)
      × (after : ℕ)
      × (next : ℤ)
      × ((p : Place) (view : View) → sight p view → form_at p.scope s.type_number ≡ Some (Records components))
      × ((p : Place) (view : View) → sight p view → x ≡ Grouped parts)
      × (component_of components name.name ≡ Some part)
      × (shape_in parts name.name ≡ Some inner)
      × (field_offset parts name.name ≡ Some offset)
      × (offset ≤ 65536)
      × IsAtOffset i from after offset shift next
      × IsClose next
      × (after ≤ to)
      × IsPath after to next part inner rest last end
  IsPath from to shift s x (MoreSelectors (Arguments (MoreArguments (Value e) NoArguments)) rest) last end =
      (index element : Subtype)
      × (many : ℕ)
      × (inner : Shape)
      × (mid : ℕ)
      × (after : ℕ)
      × (next : ℤ)
      × ((p : Place) (view : View) → sight p view → form_at p.scope s.type_number ≡ Some (Arrays index many element))
      × ((p : Place) (view : View) → sight p view → x ≡ Repeated many inner)
      × (many ≤ 65536)
      × (from ≤ mid)
      × ComputesChecked i library sight from mid index e
      × ComesToNumber i library sight e
      × IsOffset i mid after index.first (words inner) shift next
      × IsClose next
      × (after ≤ to)
      × IsPath after to next element inner rest last end
  IsPath from to shift s x (MoreSelectors other rest) last end = ⊥
