-- When the words of an image stand for the objects of a program, between steps: those of the package for the store, those of a frame for an activation.
use Rattle.std.specs.Prelude.{◌≡◌, ◌≤◌, ℕ, ℤ, true, List, [], ◌∷◌, length, map, Option, Some, None, is_some, slice_get, ⊤}
use Rattle.image.specs.Frames.{Words, object_words}
use Rattle.image.specs.declared.instruction.Region.{Region}
use Rattle.image.specs.declared.instruction.Region.TheVariants as regions
use Rattle.types.specs.Places.{Object, Place, is_among, object_of, own_components}
use Rattle.expr_soundness.specs.Answers.{FunctionsAreSound}
use Rattle.expr_soundness.specs.Lying.{PlaceLies}
use Rattle.expr_soundness.specs.meaning.specs.Programs.{Program}
use Rattle.expr_soundness.specs.meaning.specs.Works.{Activation, Store}
use Rattle.expr_code.specs.Views.{IsSameTask, View}
use Rattle.expr_code.specs.Seeing.{Package, Sees, SeesPackage, slot_of}
use Rattle.expr_code.specs.declared.visible.Slot.{Slot}
use Rattle.expr_code.specs.declared.visible.Visible.{Visible}

-- a place where expressions of the program are evaluated, with the objects of this store
pub record IsAt (program : Program) (store : Store) (p : Place) : Type 0 where
  pub scope : p.scope ≡ program.scope
  pub functions : p.functions ≡ program.functions
  pub variables : p.variables ≡ store.variables
  pub components : p.components ≡ store.components

-- no region has more words than addresses tell
abbrev pub IsAddressable : View → Type 0
IsAddressable view = (r : Region) → length (view.words r) ≤ 65536

-- The shared words stand for the store: whatever task evaluates, and whatever frame of code does it.
pub record StandsFor (program : Program) (g : Package) (store : Store) (m : Words) : Type 0 where
  pub shared : (p : Place) (view : View)
      → IsAt program store p
      → p.now ≡ view.now
      → p.schedule ≡ view.schedule
      → IsSameTask p view
      → view.memory ≡ m
      → view.words regions.Plain ≡ m.plain
      → IsAddressable view
      → FunctionsAreSound p
      → PlaceLies p
      → SeesPackage g p view
  pub plain : length m.plain ≤ 65536
  pub objects : (o : ℕ) → length (m.objects o) ≤ 65536

-- the names that are visible to a frame, how many words of its own it has at least, which of these statements leave alone, and the protected object to whose
-- body it belongs, if any
pub record Framed : Type 0 where
  pub names : Visible
  pub room : ℕ
  pub reserved : List ℕ
  pub within : Option ℕ

-- an object with words of this region is one of the running activation, or a component of the body's own protected object, or none of these
abbrev pub IsAtHome : Region → (local own : Option Object) → Type 0
IsAtHome regions.Locals local own = is_some local ≡ true
IsAtHome regions.Plain local own = (local ≡ None) × (own ≡ None)
IsAtHome regions.Object local own = (local ≡ None) × (is_some own ≡ true)

abbrev pub IsAtHomeIn : Place → (name : List ℕ) → Region → Type 0
IsAtHomeIn p name r = IsAtHome r (object_of p.locals name) (object_of (own_components p p.within) name)

-- The frame stands for the place of evaluation, within the same protected object, has its words, and has among them those of objects of the running activation
-- alone, and among those of its protected object those of components alone.
pub record Knows (g : Package) (v : Framed) (p : Place) (view : View) : Type 0 where
  pub sees : Sees g v.names p view
  pub within : p.within ≡ v.within
  pub room : v.room ≤ length (view.words regions.Locals)
  pub homes : (name : List ℕ) (slot : Slot) → slot_of v.names name ≡ Some slot → IsAtHomeIn p name slot.region

-- The locals of a frame stand for those of an activation where these names are visible, whatever the store and the shared words are, as long as these stand for
-- one another, and the frame has the words of the activation's own protected object: so they do while the frame waits for the end of a call.
pub record Rests (g : Package) (v : Framed) (a : Activation) (locals : List ℤ) : Type 0 where
  pub small : length locals ≤ 65536
  pub sees : (p : Place) (view : View) → SeesPackage g p view → p.locals ≡ a.locals → p.within ≡ a.within → view.words regions.Locals ≡ locals
      → view.words regions.Object ≡ object_words a.within view.memory → Knows g v p view

-- a word of a frame that statements leave alone, as long as a loop over a range, or the end of the body, goes by it
pub record HeldWord : Type 0 where
  pub offset : ℕ
  pub word : ℤ

abbrev pub held_offset : HeldWord → ℕ
held_offset h = h.offset

abbrev pub AreHeld : List ℤ → List HeldWord → Type 0
AreHeld locals [] = ⊤
AreHeld locals (h ∷ hs) = (slice_get locals h.offset ≡ Some h.word) × AreHeld locals hs

-- the words at these places are still the same
abbrev pub AreKept : (places : List ℕ) → (before after : List ℤ) → Type 0
AreKept places before after = (n : ℕ) → is_among places n ≡ true → slice_get after n ≡ slice_get before n

-- an activation rests, and the words that are held are those that statements leave alone
pub record RestsWith (g : Package) (v : Framed) (words : List HeldWord) (a : Activation) (locals : List ℤ) : Type 0 where
  pub rests : Rests g v a locals
  pub held : AreHeld locals words
  pub apart : map held_offset words ≡ v.reserved

-- what a frame knows later it knows now
abbrev pub Shows : Package → (now later : Framed) → Type 0
Shows g now later = (p : Place) (view : View) → Knows g now p view → Knows g later p view

-- what is visible later is among what is visible now, and statements leave the same words alone
pub record NarrowsFrame (g : Package) (now later : Framed) : Type 0 where
  pub shows : Shows g now later
  pub reserved : now.reserved ≡ later.reserved
