-- Where the words of objects stand: what a method that adds code keeps of the places that it gives to the names of a body (docs/CODEGEN.md).
use Rattle.std.specs.Prelude.{◌≡◌, ◌≢◌, ◌+◌, ◌≤◌, ◌⊎◌, ℕ, true, false, List, [], ◌∷◌, ◌++◌, length, Option, Some, None, ⊤}
use Rattle.image.specs.declared.instruction.Region.TheVariants as regions
use Rattle.types.specs.declared.entity.Role.{Role}
use Rattle.types.specs.declared.entity.Role.TheVariants as role
use Rattle.types.specs.declared.entity.Subtype.{Subtype}
use Rattle.types.specs.Entities.{Object}
use Rattle.types.specs.Layouts.{words_of}
use Rattle.types.specs.Places.{is_among}
use Rattle.types.specs.Scopes.{Scope, entity_at, is_visible, number_of, with_name}
use Rattle.expr_soundness.specs.SoundScopes.{IsSoundObject}
use Rattle.expr_code.specs.Seeing.{Package, slot_of, subtype_among}
use Rattle.expr_code.specs.declared.visible.Slot.{Slot}
use Rattle.part_code.specs.Resting.{Framed}

-- none of the words from the one address on is one of those from the other on
abbrev pub AreApart : (a many b others : ℕ) → Type 0
AreApart a many b others = (a + many ≤ b) ⊎ (b + others ≤ a)

-- the name stands for an object of this role and subtype
pub record NamesObject (s : Scope) (name : List ℕ) (r : Role) (t : Subtype) : Type 0 where
  pub number : ℕ
  pub numbered : number_of s name ≡ Some number
  pub stands : entity_at s number ≡ Some (Object r t)

-- what has words is an object, and objects of one region have words of their own each
pub record IsLaid (s : Scope) (slots : (name : List ℕ) → Option Slot) : Type 0 where
  pub objects : (name : List ℕ) (x : Slot) → slots name ≡ Some x → (r : Role) × (t : Subtype) × NamesObject s name r t
  pub apart : (one other : List ℕ) (x y : Slot) (q r : Role) (t u : Subtype) → one ≢ other → slots one ≡ Some x → slots other ≡ Some y
      → x.region ≡ y.region
      → NamesObject s one q t → NamesObject s other r u → AreApart x.offset (words_of s t) y.offset (words_of s u)

-- the variables of the package stand among the plain words, and the components of each protected object among its own, where none is another's
pub record IsLaidPackage (g : Package) : Type 0 where
  pub laid : IsLaid g.scope (g.slots None)
  pub plain : (name : List ℕ) (x : Slot) → g.slots None name ≡ Some x → x.region ≡ regions.Plain
  pub region : (object : ℕ) (name : List ℕ) (x : Slot) → g.slots (Some object) name ≡ Some x → x.region ≡ regions.Object
  pub parts : (object : ℕ) (one other : List ℕ) (x y : Slot) (t u : Subtype) → one ≢ other → g.slots (Some object) one ≡ Some x
      → g.slots (Some object) other ≡ Some y
      → subtype_among (g.first (Some object)) one ≡ Some t
      → subtype_among (g.first (Some object)) other ≡ Some u
      → AreApart x.offset (words_of g.scope t) y.offset (words_of g.scope u)

-- what may be stored in: a loop parameter may not (RM 5.5)
abbrev pub IsVariable : Role → Type 0
IsVariable role.LoopParameter = ⊥
IsVariable r = ⊤

-- so many words from an address on are none of these places
abbrev pub IsFree : (places : List ℕ) → (offset many : ℕ) → Type 0
IsFree places offset many = (n : ℕ) → is_among places n ≡ true → AreApart n 1 offset many

-- no word of a variable in the frame is one that statements leave alone
abbrev pub AreFree : Framed → Type 0
AreFree v = (name : List ℕ) (x : Slot) (r : Role) (t : Subtype) → slot_of v.names name ≡ Some x → x.region ≡ regions.Locals → NamesObject v.names.scope name r t
    → IsVariable r
    → IsFree v.reserved x.offset (words_of v.names.scope t)

-- The places that are visible in a body: those of the package's variables are the package's, those of components are those of the body's own protected object,
-- and there are as many entries as names.
pub record IsLaidOut (g : Package) (v : Framed) : Type 0 where
  pub unit : IsLaidPackage g
  pub laid : IsLaid v.names.scope (slot_of v.names)
  pub shared : (name : List ℕ) (x : Slot) → slot_of v.names name ≡ Some x → x.region ≡ regions.Plain → g.slots None name ≡ Some x
  pub own : (name : List ℕ) (x : Slot) (object : ℕ) → slot_of v.names name ≡ Some x → x.region ≡ regions.Object → v.within ≡ Some object
      → g.slots (Some object) name ≡ Some x
  pub free : AreFree v
  pub slots : length v.names.slots ≡ length v.names.scope
  pub subprograms : length v.names.subprograms ≡ length v.names.scope

-- the words of all that is visible in the frame end there
abbrev pub EndsBelow : Framed → ℕ → Type 0
EndsBelow v top = (name : List ℕ) (x : Slot) (r : Role) (t : Subtype) → slot_of v.names name ≡ Some x → x.region ≡ regions.Locals
    → NamesObject v.names.scope name r t → x.offset + words_of v.names.scope t ≤ top

-- what is visible behind the declaration of an object: one name more, with its place
pub record Widens (v : Framed) (name : List ℕ) (r : Role) (t : Subtype) (slot : Slot) (later : Framed) : Type 0 where
  pub hidden : is_visible v.names.scope name ≡ false
  pub sound : IsSoundObject v.names.scope r t
  pub scope : later.names.scope ≡ with_name v.names.scope name (Object r t)
  pub slots : later.names.slots ≡ v.names.slots ++ Some slot ∷ []
  pub subprograms : later.names.subprograms ≡ v.names.subprograms ++ None ∷ []
  pub operations : later.names.operations ≡ v.names.operations
  pub room : later.room ≡ v.room
  pub within : later.within ≡ v.within
  -- its words are in the frame, and none of them is one of another object's
  pub apart : (other : List ℕ) (x : Slot) (q : Role) (u : Subtype) → slot_of v.names other ≡ Some x → x.region ≡ slot.region
      → NamesObject v.names.scope other q u → AreApart slot.offset (words_of v.names.scope t) x.offset (words_of v.names.scope u)
  pub fits : slot.offset + words_of v.names.scope t ≤ v.room

-- the words of the new object are none of those that statements leave alone, which stay the same
pub record Spares (v : Framed) (t : Subtype) (slot : Slot) (later : Framed) : Type 0 where
  pub reserved : later.reserved ≡ v.reserved
  pub free : IsFree v.reserved slot.offset (words_of v.names.scope t)
