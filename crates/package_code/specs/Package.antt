-- What it is that a package of code is that of a program: where its variables stand, and what is visible in front of bodies and behind the parameters of a
-- call.
use Rattle.std.specs.Prelude.{◌≡◌, ℕ, ◌+◌, ℤ, List, [], ◌∷◌, ◌++◌, bytes_eq, length, option_map, Option, Some, None, if◌then◌else◌}
use Rattle.ada_tree.specs.declared.declaration.Mode.{Mode}
use Rattle.ada_tree.specs.declared.declaration.Mode.TheVariants as mode
use Rattle.ada_tree.specs.ProgramTree.{ProgramTree}
use Rattle.image.specs.Code.{initial_words}
use Rattle.image.specs.Sections.{Sections}
use Rattle.image.specs.declared.instruction.Region.TheVariants as regions
use Rattle.types.specs.Entities.{Entity}
use Rattle.types.specs.Layouts.{words_of}
use Rattle.types.specs.Scopes.{Scope}
use Rattle.types.specs.Places.{Object, object_of}
use Rattle.types.specs.Shapes.{value_words}
use Rattle.types.specs.Values.{Value}
use Rattle.expr_soundness.specs.meaning.specs.Programs.{Parameter, Program, program_of}
use Rattle.program_soundness.specs.step_soundness.specs.Fitting.{IsFound, entity_named}
use Rattle.expr_code.specs.Naming.{Lies}
use Rattle.expr_code.specs.Seeing.{Package, slot_of, subprogram_of}
use Rattle.expr_code.specs.declared.visible.Slot.{Slot}
use Rattle.step_simulation.specs.part_code.specs.Formals.{AddsParameter}
use Rattle.step_simulation.specs.part_code.specs.Layout.{IsLaidPackage}
use Rattle.step_simulation.specs.part_code.specs.Resting.{Framed}
use Rattle.package_code.specs.Owners.{in_object, protected_objects, told_behind_objects, told_inside, told_slot}

-- ---- the package

-- its variables, or the components of this protected object, as they begin
abbrev pub first_objects : Program → (owner : Option ℕ) → List Object
first_objects program None = program.variables
first_objects program (Some o) = program.components o

-- the variable of this name, or the component of this protected object, has its place, where these words are first those of this value
pub record BeginsAs (words : List ℤ) (g : Package) (owner : Option ℕ) (name : List ℕ) (value : Value) : Type 0 where
  pub slot : Slot
  pub there : g.slots owner name ≡ Some slot
  pub lies : Lies words slot.offset value

-- The package is that of the program: it has its names and its functions, and each variable has words among the plain ones, and each component of a protected
-- object among those of the object, which begin as those of its initial value. What has words of the package's names is an object that is visible behind it,
-- and so a variable: constants are none (RM 3.3.1).
pub record IsPackageOf (t : ProgramTree) (i : Sections) (g : Package) : Type 0 where
  pub scope : g.scope ≡ (program_of t).scope
  pub functions : g.functions ≡ (program_of t).functions
  pub first : (owner : Option ℕ) → g.first owner ≡ first_objects (program_of t) owner
  pub laid : IsLaidPackage g
  pub variables : (name : List ℕ) (x : Object) → object_of (program_of t).variables name ≡ Some x → BeginsAs i.plain_words g None name x.value
  pub components : (object : ℕ) (name : List ℕ) (x : Object) → object_of ((program_of t).components object) name ≡ Some x
      → BeginsAs ((initial_words i).objects object) g (Some object) name x.value

-- ---- variables one behind the other, in the order of the text

-- the words of the initial values of these objects
abbrev pub first_words_of : List Object → List ℤ
first_words_of [] = []
first_words_of (x ∷ xs) = value_words x.value ++ first_words_of xs

-- where the object of this name stands among the plain words, if the words of the first of these begin there
abbrev pub place_among : (from : ℕ) → List Object → (name : List ℕ) → Option Slot
place_among from [] name = None
place_among from (x ∷ xs) name =
    if bytes_eq x.name name then Some (record { region = regions.Plain; offset = from }) else place_among (from + length (value_words x.value)) xs name

-- the places of the variables and components are those, and the image has their words
pub record IsInOrder (t : ProgramTree) (i : Sections) (g : Package) : Type 0 where
  pub scope : g.scope ≡ (program_of t).scope
  pub functions : g.functions ≡ (program_of t).functions
  pub first : (owner : Option ℕ) → g.first owner ≡ first_objects (program_of t) owner
  pub slots : (name : List ℕ) → g.slots None name ≡ place_among 0 (program_of t).variables name
  pub components : (object : ℕ) (name : List ℕ) → g.slots (Some object) name ≡ option_map in_object (place_among 0 ((program_of t).components object) name)
  pub words : i.plain_words ≡ first_words_of (program_of t).variables
  pub object_words : (object : ℕ) → (initial_words i).objects object ≡ first_words_of ((program_of t).components object)

-- ---- bodies

-- what is visible in the frame names what the program has, to a body of this protected object or to one that belongs to none
pub record FindsNames (program : Program) (owner : Option ℕ) (v : Framed) : Type 0 where
  pub finds : (name : List ℕ) (e : Entity) → entity_named v.names.scope name ≡ Some e → IsFound program owner name e

-- These names are visible in the body of this object's operation, or in one that belongs to no object, in front of its parameters; with places and subprograms
-- that are the object's own, or else the package's.
pub record IsInFront (s : Scope) (g : Package) (owner : Option ℕ) (v : Framed) : Type 0 where
  pub scope : v.names.scope ≡ s
  pub slots : (name : List ℕ) (slot : Slot) → slot_of v.names name ≡ Some slot
      → told_slot g.slots g.subprograms owner name ≡ Some slot
  pub calls : (name : List ℕ) (number : ℕ) → subprogram_of v.names name ≡ Some number → told_inside g.subprograms owner name ≡ Some number
  pub within : v.within ≡ owner
  pub operations : v.names.operations ≡ told_behind_objects g.subprograms (protected_objects g.scope)
  -- an entry for each name
  pub many_slots : length v.names.slots ≡ length v.names.scope
  pub many_subprograms : length v.names.subprograms ≡ length v.names.scope

-- One parameter has words from `from` on, in the order in which they are passed: the address of its target, if it is copied back, at the first of these places;
-- and then its value, if it is copied in. What holds of the others holds behind them.
abbrev pub HoldsOne : Mode → Parameter → (v : Framed) (from : ℕ) (places : List ℕ) → (rest : Framed → ℕ → List ℕ → Type 0) → Type 0
HoldsOne mode.In f v from places rest = (next : Framed) × AddsParameter v f from next × rest next (from + words_of v.names.scope f.subtype) places
HoldsOne mode.Out f v from places rest = (others : List ℕ) × (places ≡ from ∷ others) × rest v (from + 1) others
HoldsOne mode.InOut f v from places rest =
    (next : Framed) × (others : List ℕ) × (places ≡ from ∷ others) × AddsParameter v f (from + 1) next
    × rest next ((from + 1) + words_of v.names.scope f.subtype) others

-- all of them, from left to right, one behind the other up to `top`; those that are copied in are visible behind them
abbrev pub HoldsAll : (v : Framed) (from : ℕ) (places : List ℕ) → List Parameter → (last : Framed) (top : ℕ) → Type 0
HoldsAll v from places [] last top = (last ≡ v) × (places ≡ []) × (from ≡ top)
HoldsAll v from places (f ∷ fs) last top = HoldsOne f.mode f v from places (λ next after others. HoldsAll next after others fs last top)
