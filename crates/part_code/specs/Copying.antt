-- What a call passes and copies back (RM 6.4.1). With each parameter that is copied back the address of its target is passed; at the end of the body the
-- address
-- and the value come back together, those of the first parameter on top, so each is stored where it stands.
use Rattle.std.specs.Prelude.{◌≡◌, ◌≤◌, ◌+◌, ◌-◌, ℕ, suc, ℤ, pos, true, List, [], ◌∷◌, ◌++◌, drop, length, reverse, Option, Some, None, ⊤, if◌then◌else◌}
use Rattle.base.specs.declared.schedule.ScheduleLine.{ScheduleLine}
use Rattle.kernel.specs.State.{Kernel}
use Rattle.kernel.specs.Calm.{Calm}
use Rattle.kernel.specs.Counting.{Spends}
use Rattle.ada_tree.specs.declared.declaration.Mode.TheVariants as mode
use Rattle.ada_tree.specs.ExpressionTree as tree
use Rattle.ada_tree.specs.ExpressionTree.{ArgumentTree, ArgumentTrees, ExprTree, MoreArguments, Named, NoArguments, Text}
use Rattle.image.specs.Sections.{Sections}
use Rattle.image.specs.Operations.{called, results_of}
use Rattle.image.specs.Frames.{Frame, Words, own_object}
use Rattle.image.specs.Steps.{behaviour}
use Rattle.image.specs.declared.instruction.Operation.TheVariants as op
use Rattle.image.specs.declared.instruction.Region.{Region}
use Rattle.image.specs.declared.instruction.Region.TheVariants as regions
use Rattle.types.specs.declared.entity.Role.{Role}
use Rattle.types.specs.declared.entity.Subtype.{Subtype}
use Rattle.types.specs.Entities.{Entity, Object, TypeForm}
use Rattle.types.specs.Evaluations.{Val, Gives, Meaningless, and_then}
use Rattle.types.specs.Evaluating.{Calls, passed, value_with}
use Rattle.types.specs.Places as places
use Rattle.types.specs.Places.{Place, object_of}
use Rattle.types.specs.Scopes.{Scope, entity_at, form_at, number_of}
use Rattle.types.specs.Shapes.{Shape, Shapeless, has_shape, shape_of, value_words}
use Rattle.types.specs.Values.{Value}
use Rattle.expr_soundness.specs.meaning.specs.Calls.{Actuals, copied_both, copied_in, copied_out, is_out, results_in, value_or_nothing, with_actuals}
use Rattle.expr_soundness.specs.meaning.specs.Programs.{Parameter, Program}
use Rattle.expr_soundness.specs.meaning.specs.SameMeaning.{frames_of}
use Rattle.expr_soundness.specs.meaning.specs.Targets.{activation_with, all_selected, object_named, store_with, target_or_nothing, value_in}
use Rattle.expr_soundness.specs.meaning.specs.Works.{Activation, Home, InActivation, InPackage, InObject, Store, Target}
use Rattle.expr_code.specs.Views.{At, in_frame, placed, view_of}
use Rattle.expr_code.specs.Coming.{Comes, most_steps, on}
use Rattle.expr_code.specs.Seeing.{Package, slot_of}
use Rattle.expr_code.specs.declared.visible.Slot.{Slot}
use Rattle.expr_code.specs.declared.visible.Visible.{Visible}
use Rattle.part_code.specs.Layout.{IsVariable, NamesObject}
use Rattle.part_code.specs.Parts.{HasParts, part_offset, part_shape}
use Rattle.part_code.specs.Resting.{AreHeld, Framed, HeldWord, IsAt, Knows, Rests, StandsFor}
use Rattle.part_code.specs.Storing.{Puts}
use Rattle.part_code.specs.declared.call.Destination.{Destination}

-- ---- targets and their addresses

abbrev pub entity_shape : Scope → Option Entity → Shape
entity_shape s (Some (Object r t)) = shape_of s t
entity_shape s e = Shapeless

-- the shape of the object with this name
abbrev pub shape_named : Scope → List ℕ → Shape
shape_named s name = elim (number_of s name) [ None ↦ Shapeless | Some n ↦ entity_shape s (entity_at s n) ]

abbrev pub offset_or_none : Option Slot → ℕ
offset_or_none (Some x) = x.offset
offset_or_none None = 0

-- where the words of a target begin, in its region
abbrev pub address_of : Visible → Target → ℕ
address_of v x = offset_or_none (slot_of v x.name) + part_offset (shape_named v.scope x.name) x.parts

abbrev pub addresses_of : Visible → List Target → List ℕ
addresses_of v [] = []
addresses_of v (x ∷ xs) = address_of v x ∷ addresses_of v xs

-- variables in the frame are of the running activation, plain words are those of the package, and those of an object are of the body's own
abbrev pub IsHomeOf : (within : Option ℕ) → Region → Home → Type 0
IsHomeOf within regions.Locals h = h ≡ InActivation
IsHomeOf within regions.Plain h = h ≡ InPackage
IsHomeOf within regions.Object h = (o : ℕ) × (within ≡ Some o) × (h ≡ InObject o)

-- the target is a variable, or a part of one, that has words there
pub record IsPlacedTarget (v : Framed) (d : Destination) (x : Target) : Type 0 where
  pub slot : Slot
  pub there : slot_of v.names x.name ≡ Some slot
  pub region : slot.region ≡ d.region
  pub home : IsHomeOf v.within d.region x.home
  pub role : Role
  pub whole : Subtype
  pub named : NamesObject v.names.scope x.name role whole
  pub variable : IsVariable role
  pub has : HasParts (shape_of v.names.scope whole) x.parts
  pub shape : part_shape (shape_of v.names.scope whole) x.parts ≡ shape_of v.names.scope d.subtype
  pub subtype : x.subtype ≡ d.subtype
  pub known : (form : TypeForm) × (form_at v.names.scope d.subtype.type_number ≡ Some form)

abbrev pub ArePlaced : Framed → List Destination → List Target → Type 0
ArePlaced v [] [] = ⊤
ArePlaced v (d ∷ ds) (x ∷ xs) = IsPlacedTarget v d x × ArePlaced v ds xs
ArePlaced v ds xs = ⊥

-- ---- parameters

-- those that are copied in, and those that are not
abbrev pub taken : List Parameter → List Parameter
taken [] = []
taken (f ∷ fs) = if is_out f.mode then taken fs else f ∷ taken fs

abbrev pub left_out : List Parameter → List Parameter
left_out [] = []
left_out (f ∷ fs) = if is_out f.mode then f ∷ left_out fs else left_out fs

abbrev pub first_words : List Value → List ℤ
first_words [] = []
first_words (v ∷ vs) = value_words v

abbrev pub first_address : List ℕ → List ℤ
first_address [] = []
first_address (a ∷ rest) = pos a ∷ []

-- the words that are passed, from left to right: of a parameter that is copied back the address of its target, of one that is copied in those of its value
abbrev pub passed_words : List Parameter → List Value → (addresses : List ℕ) → List ℤ
passed_words [] vs addresses = []
passed_words (f ∷ fs) vs addresses = elim f.mode [
  | mode.In ↦ first_words vs ++ passed_words fs (drop 1 vs) addresses
  | mode.Out ↦ first_address addresses ++ passed_words fs vs (drop 1 addresses)
  | mode.InOut ↦ first_address addresses ++ (first_words vs ++ passed_words fs (drop 1 vs) (drop 1 addresses))
]

-- these words on an operand stack, the last one on top
abbrev pub actuals_on : Visible → List Parameter → (base : List ℤ) → Actuals → List ℤ
actuals_on v ps base a = reverse (passed_words ps a.values (addresses_of v a.targets)) ++ base

-- the words of values above the addresses where they go, those of the first one on top
abbrev pub copies_on : List Value → (addresses : List ℕ) → (base : List ℤ) → List ℤ
copies_on (v ∷ vs) (a ∷ rest) base = on (pos a ∷ copies_on vs rest base) v
copies_on vs addresses base = base

-- the addresses stand in these words of the frame
abbrev pub held_at : (offsets addresses : List ℕ) → List HeldWord
held_at (n ∷ ns) (a ∷ rest) = record { offset = n; word = pos a } ∷ held_at ns rest
held_at ns addresses = []

-- ---- actual parameters, as values of calls tell them

abbrev pub objects_at : Target → Place → List places.Object
objects_at x p = elim x.home [ InActivation ↦ p.locals | InPackage ↦ p.variables | InObject o ↦ p.components o ]

abbrev pub target_at : Calls → Place → ExprTree → Val Target
target_at calls p (Named first selectors) = and_then (target_or_nothing (object_named p first.name)) (all_selected calls p selectors)
target_at calls p e = Meaningless

abbrev pub passed_expression : Calls → Place → Parameter → ExprTree → Val Actuals
passed_expression calls p f e = elim f.mode [
  | mode.In ↦ and_then (and_then (value_with calls p e) (passed f.subtype)) copied_in
  | mode.Out ↦ and_then (target_at calls p e) copied_out
  | mode.InOut ↦ and_then (target_at calls p e)
      (λ x. and_then (and_then (value_or_nothing (value_in (object_of (objects_at x p) x.name) x.parts)) (passed f.subtype)) (copied_both x))
]

abbrev pub passed_actual : Calls → Place → Parameter → ArgumentTree → Val Actuals
passed_actual calls p f (tree.Value e) = passed_expression calls p f e
passed_actual calls p f (Text label at) = Meaningless

abbrev pub passed_actuals : Calls → Place → List Parameter → ArgumentTrees → Val Actuals
passed_actuals calls p [] NoArguments = Gives (record { values = []; targets = [] })
passed_actuals calls p (f ∷ fs) (MoreArguments x rest) =
    and_then (passed_actual calls p f x) (λ one. and_then (passed_actuals calls p fs rest) (with_actuals one))
passed_actuals calls p fs xs = Meaningless

-- ---- code

module _ (i : Sections) (program : Program) (g : Package) where
  -- Above an address stand the words of a value: they are checked, and stored there.
  pub record IsCopy (v : Framed) (d : Destination) (from to : ℕ) : Type 0 where
    pub mid : ℕ
    pub up : from ≤ mid
    pub end : to ≡ suc mid
    pub checks : (schedule : List ScheduleLine) (k : Kernel) (t : ℕ) (m : Words) (f : Frame) (fs : List Frame) (base : List ℤ) (x : Value)
        → Calm k t
        → has_shape (shape_of v.names.scope d.subtype) x ≡ true
        → Comes i schedule k t m (placed f from (on base x)) fs (mid - from) mid (on base) (passed d.subtype x)
    pub puts : (schedule : List ScheduleLine) (k : Kernel) (t : ℕ) (m : Words) (f : Frame) (fs : List Frame) (store : Store) (a : Activation) (p : Place)
        (x : Target) (y : Value) (base : List ℤ)
        → IsAt program store p
        → p.locals ≡ a.locals
        → p.within ≡ a.within
        → StandsFor program g store m
        → Rests g v a f.locals
        → own_object i f ≡ a.within
        → Knows g v p (view_of i schedule k t m f fs)
        → IsPlacedTarget v d x
        → has_shape (shape_of v.names.scope d.subtype) y ≡ true
        → Puts i program g schedule k t m f fs mid (on (pos (address_of v.names x) ∷ base) y) base v (store_with x y store) (activation_with x y a)

  abbrev pub AreCopies : Framed → (from to : ℕ) → List Destination → Type 0
  AreCopies v from to [] = from ≡ to
  AreCopies v from to (d ∷ ds) = (mid : ℕ) × (from ≤ mid) × (mid ≤ to) × IsCopy v d from mid × AreCopies v mid to ds

  -- the end of a body: the addresses that are held and the values of these objects are put on the operand stack, and the body returns them
  pub record GivesBack (v : Framed) (names : List (List ℕ)) (number from : ℕ) : Type 0 where
    pub back : ℕ
    pub up : from ≤ back
    pub return : At i back op.Return
    pub pushes : (schedule : List ScheduleLine) (k : Kernel) (t : ℕ) (m : Words) (f : Frame) (fs : List Frame) (p : Place) (addresses : List ℕ)
        → Calm k t
        → Knows g v p (view_of i schedule k t m f fs)
        → AreHeld f.locals (held_at v.reserved addresses)
        → length addresses ≡ length names
        → (length (results_in p.locals names) ≡ length names)
        × (length (copies_on (results_in p.locals names) addresses []) ≡ results_of (called i number))
        × Spends (behaviour i schedule) t frames_of (most_steps i) (suc (length fs)) (back - from) k (in_frame m (placed f from []) fs) k
        (in_frame m (placed f back (copies_on (results_in p.locals names) addresses [])) fs)
