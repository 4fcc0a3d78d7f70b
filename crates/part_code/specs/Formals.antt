-- Where the words of formal parameters stand in the frame of a body: those that are passed stand first, in the order of the text, and behind them those of
-- `out`
-- parameters (RM 6.4.1; docs/CODEGEN.md).
use Rattle.std.specs.Prelude.{◌≡◌, ℕ, suc, ◌+◌, ◌*◌, ◌<◌, ◌≤◌, ◌⊎◌, pos, ℤ, List, [], ◌∷◌, ◌++◌, length, map, Bool, true, false, Option, Some, None, if◌then◌else◌, ⊤}
use Rattle.std.specs.List.{All}
use Rattle.ada_tree.specs.declared.declaration.Formal.{Formal}
use Rattle.ada_tree.specs.declared.declaration.Mode.{Mode}
use Rattle.ada_tree.specs.declared.declaration.Mode.TheVariants as mode
use Rattle.ada_tree.specs.Size.{total}
use Rattle.image.specs.Sections.{Sections}
use Rattle.image.specs.declared.instruction.Operation.TheVariants as op
use Rattle.image.specs.declared.instruction.Region.TheVariants as regions
use Rattle.image.specs.declared.subprograms.Subprogram.{Subprogram}
use Rattle.types.specs.Entities as entity
use Rattle.types.specs.Layouts.{words_of}
use Rattle.types.specs.Scopes.{Scope, form_at, with_name}
use Rattle.types.specs.Shapes.{initial, value_words}
use Rattle.type_rules.specs.SubtypeNames.{subtype_of}
use Rattle.expr_soundness.specs.declaration_rules.specs.BodyNames.{formal_role, formals_scope}
use Rattle.expr_soundness.specs.meaning.specs.Calls.{is_out}
use Rattle.expr_soundness.specs.meaning.specs.Programs.{Parameter}
use Rattle.expr_code.specs.Code.{Extends, Holds, here}
use Rattle.expr_code.specs.Flows.{AreKeptBetween, Flows}
use Rattle.expr_code.specs.Views.{At}
use Rattle.expr_code.specs.declared.code.Code.{Code}
use Rattle.expr_code.specs.declared.visible.Slot.{Slot}
use Rattle.expr_code.specs.declared.visible.Visible.{Visible}
use Rattle.part_code.specs.Bounds.{words_named}
use Rattle.part_code.specs.Emitting.{first_word}
use Rattle.part_code.specs.Resting.{Framed}
use Rattle.part_code.specs.Storing.{ArePushed}
use Rattle.part_code.specs.declared.frame_words.FrameWords.{FrameWords}
use Rattle.part_code.specs.declared.formals.PlacedFormal.{PlacedFormal}
use Rattle.part_code.specs.declared.formals.PlacedFormals.{PlacedFormals}

-- a parameter more is visible, and the words of its value begin there
pub record AddsParameter (v : Framed) (f : Parameter) (offset : ℕ) (next : Framed) : Type 0 where
  pub slot : Slot
  pub region : slot.region ≡ regions.Locals
  pub at : slot.offset ≡ offset
  pub scope : next.names.scope ≡ with_name v.names.scope f.name (entity.Object (formal_role f.mode) f.subtype)
  pub slots : next.names.slots ≡ v.names.slots ++ Some slot ∷ []
  pub subprograms : next.names.subprograms ≡ v.names.subprograms ++ None ∷ []
  pub operations : next.names.operations ≡ v.names.operations
  pub room : next.room ≡ v.room
  pub within : next.within ≡ v.within
  pub reserved : next.reserved ≡ v.reserved

-- ---- parameters in the order of the text

-- a parameter, and the word of the frame with which its value begins
abbrev pub Placed : Type 0
Placed = Parameter × ℕ

abbrev pub parameter_at : Placed → Parameter
parameter_at x = x.0

-- they become visible in this order
abbrev pub AddsEach : Framed → List Placed → Framed → Type 0
AddsEach v [] last = last ≡ v
AddsEach v (x ∷ xs) last = (next : Framed) × AddsParameter v x.0 x.1 next × AddsEach next xs last

-- The value of each one that is copied in stands where it is passed, from `from` on; those of the others stand one behind the other from `out` on. These names
-- are visible in front of the body.
abbrev pub AreInTurn : Scope → (from out : ℕ) → List Placed → Type 0
AreInTurn s from out [] = ⊤
AreInTurn s from out (x ∷ xs) = elim x.0.mode [
  | mode.In ↦ (x.1 ≡ from) × AreInTurn s (from + words_of s x.0.subtype) out xs
  | mode.Out ↦ (x.1 ≡ out) × AreInTurn s (from + 1) (out + words_of s x.0.subtype) xs
  | mode.InOut ↦ (x.1 ≡ from + 1) × AreInTurn s ((from + 1) + words_of s x.0.subtype) out xs
]

-- the words of the addresses that are passed
abbrev pub addresses_from : Scope → (from : ℕ) → List Placed → List ℕ
addresses_from s from [] = []
addresses_from s from (x ∷ xs) = elim x.0.mode [
  | mode.In ↦ addresses_from s (from + words_of s x.0.subtype) xs
  | mode.Out ↦ from ∷ addresses_from s (from + 1) xs
  | mode.InOut ↦ from ∷ addresses_from s ((from + 1) + words_of s x.0.subtype) xs
]

-- where the words that are passed end
abbrev pub passed_end : Scope → (from : ℕ) → List Placed → ℕ
passed_end s from [] = from
passed_end s from (x ∷ xs) = elim x.0.mode [
  | mode.In ↦ passed_end s (from + words_of s x.0.subtype) xs
  | mode.Out ↦ passed_end s (from + 1) xs
  | mode.InOut ↦ passed_end s ((from + 1) + words_of s x.0.subtype) xs
]

-- and where those of the others do
abbrev pub outs_end : Scope → (out : ℕ) → List Placed → ℕ
outs_end s out [] = out
outs_end s out (x ∷ xs) = if is_out x.0.mode then outs_end s (out + words_of s x.0.subtype) xs else outs_end s out xs

-- ---- as methods place them

-- the words that are passed for a formal parameter
abbrev pub passed_for : Scope → Formal → ℕ
passed_for s f = elim f.mode [ mode.In ↦ words_named s f.subtype | mode.Out ↦ 1 | mode.InOut ↦ suc (words_named s f.subtype) ]

-- One that is copied in stands where it is passed, behind the address of its target, where it is copied back; one that is not stands at `out`. What is passed
-- next begins at `next`, and those that are not copied in go on at `behind`.
abbrev pub StandsAt : Mode → (many from out : ℕ) → PlacedFormal → (next behind : ℕ) → Type 0
StandsAt mode.In many from out x next behind = (x.address ≡ None) × (x.offset ≡ from) × (next ≡ from + many) × (behind ≡ out)
StandsAt mode.Out many from out x next behind = (x.address ≡ Some from) × (x.offset ≡ out) × (next ≡ from + 1) × (behind ≡ out + many)
StandsAt mode.InOut many from out x next behind = (x.address ≡ Some from) × (x.offset ≡ from + 1) × (next ≡ (from + 1) + many) × (behind ≡ out)

-- all of them, from left to right; what is passed ends at `last`, and the others at `top`
abbrev pub StandInTurn : Scope → (from out : ℕ) → List Formal → List PlacedFormal → (last top : ℕ) → Type 0
StandInTurn s from out [] [] last top = (from ≡ last) × (out ≡ top)
StandInTurn s from out (f ∷ fs) (x ∷ xs) last top =
    (next : ℕ) × (behind : ℕ) × (subtype_of s f.subtype ≡ Some x.subtype) × (x.mode ≡ f.mode) × StandsAt f.mode (words_of s x.subtype) from out x next behind
    × StandInTurn s next behind fs xs last top
StandInTurn s from out fs xs last top = ⊥

abbrev pub slot_for : PlacedFormal → Option Slot
slot_for x = Some (record { region = regions.Locals; offset = x.offset })

abbrev pub no_subprogram : PlacedFormal → Option ℕ
no_subprogram x = None

-- its value has words
abbrev pub HasValue : Scope → PlacedFormal → Type 0
HasValue s x = 1 ≤ words_of s x.subtype

-- formal parameters have words of a frame, of which none was taken, and are visible
pub record PlacesFormals (v : Visible) (fs : List Formal) (later : Visible) (words : FrameWords) (placed : PlacedFormals) : Type 0 where
  pub stand : StandInTurn v.scope 0 placed.passed fs placed.formals.items placed.passed words.taken
  pub some : All (HasValue v.scope) placed.formals.items
  pub most : words.taken ≤ words.most
  pub scope : later.scope ≡ formals_scope v.scope fs
  pub slots : later.slots ≡ v.slots ++ map slot_for placed.formals.items
  pub subprograms : later.subprograms ≡ v.subprograms ++ map no_subprogram placed.formals.items
  pub operations : later.operations ≡ v.operations

-- ---- what their code asks of a subprogram

-- a frame of so many words has the first one of the value, which has words, and that of the address
pub record BeginsWithin (s : Scope) (room : ℕ) (x : PlacedFormal) : Type 0 where
  pub some : 1 ≤ words_of s x.subtype
  pub value : x.offset < room
  pub address : (a : ℕ) → x.address ≡ Some a → a < room

-- the frame of a subprogram has this word
abbrev pub HasWord : (offset : ℕ) → Sections → Subprogram → Type 0
HasWord offset i q = offset < q.locals

abbrev pub HaveFormalRoom : Scope → List PlacedFormal → Sections → Subprogram → Type 0
HaveFormalRoom s xs i q = All (BeginsWithin s q.locals) xs

-- ---- `out` parameters, which begin as objects without initial value (RM 6.4.1)

-- a single word is pushed, and stored
pub record StoresFirstWord (i : Sections) (s : Scope) (from to : ℕ) (x : PlacedFormal) : Type 0 where
  pub word : ℤ
  pub first : first_word (form_at s x.subtype.type_number) x.subtype ≡ Some word
  pub push : At i from (op.Push word)
  pub store : At i (suc from) (op.StoreLocal x.offset)
  pub end : to ≡ suc (suc from)

-- of several their place is pushed, and each of them, and all are stored from there on
pub record StoresFirstWords (i : Sections) (s : Scope) (from to : ℕ) (x : PlacedFormal) : Type 0 where
  pub mid : ℕ
  pub address : At i from (op.Push (pos x.offset))
  pub pushed : ArePushed i (suc from) (value_words (initial s x.subtype))
  pub long : mid ≡ suc from + length (value_words (initial s x.subtype))
  pub store : At i mid (op.StoreBlock regions.Locals (words_of s x.subtype))
  pub end : to ≡ suc mid

-- one that is not copied in gets its first value
abbrev pub InitialThen : Sections → Scope → (from : ℕ) → PlacedFormal → (rest : ℕ → Type 0) → (out : Bool) → Type 0
InitialThen i s from x rest true = (mid : ℕ) × (StoresFirstWord i s from mid x ⊎ StoresFirstWords i s from mid x) × rest mid
InitialThen i s from x rest false = rest from

abbrev pub AreInitial : Sections → Scope → (from to : ℕ) → List PlacedFormal → Type 0
AreInitial i s from to [] = from ≡ to
AreInitial i s from to (x ∷ xs) = InitialThen i s from x (λ n. AreInitial i s n to xs) (is_out x.mode)

abbrev pub placed_words : Scope → PlacedFormal → ℕ
placed_words s x = words_of s x.subtype

pub record Initialises (s : Scope) (old : Code) (xs : List PlacedFormal) (new : Code) : Type 0 where
  pub extends : Extends old new
  pub sized : here new ≤ here old + (2 * length xs + total (placed_words s) xs)
  pub stands : (i : Sections) → Holds i (here old) new → AreInitial i s (here old) (here new) xs
  pub flows : Flows (HaveFormalRoom s xs) old 0 new 0

-- ---- what the end of a body gives back

-- the words of a value in the frame are put on the operand stack: a single one by LDL, several by PUSH of their place and LDB
abbrev pub IsLoadingCode : Sections → (from to offset size : ℕ) → Type 0
IsLoadingCode i from to offset size =
    ((size ≡ 1) × At i from (op.LoadLocal offset) × (to ≡ suc from))
    ⊎ (At i from (op.Push (pos offset)) × At i (suc from) (op.LoadBlock regions.Locals size) × (to ≡ suc (suc from)))

-- of one that is copied back the address and the value
abbrev pub ReturnedThen : Sections → Scope → (from to : ℕ) → PlacedFormal → (rest : ℕ → Type 0) → (address : Option ℕ) → Type 0
ReturnedThen i s from to x rest None = rest to
ReturnedThen i s from to x rest (Some a) =
    (mid : ℕ) × (from ≤ mid) × (mid ≤ to) × rest mid × At i mid (op.LoadLocal a) × IsLoadingCode i (suc mid) to x.offset (words_of s x.subtype)

-- all of them, from the last one to the first
abbrev pub AreReturned : Sections → Scope → (from to : ℕ) → List PlacedFormal → Type 0
AreReturned i s from to [] = from ≡ to
AreReturned i s from to (x ∷ xs) = ReturnedThen i s from to x (λ n. AreReturned i s from n xs) x.address

-- the words of both
abbrev pub returned_more : Option ℕ → (words rest : ℕ) → ℕ
returned_more None words rest = rest
returned_more (Some a) words rest = suc words + rest

abbrev pub words_returned : Scope → List PlacedFormal → ℕ
words_returned s [] = 0
words_returned s (x ∷ xs) = returned_more x.address (words_of s x.subtype) (words_returned s xs)

-- they are given back: so many words, by a return behind them
pub record Returns (s : Scope) (old : Code) (xs : List PlacedFormal) (height : ℕ) (new : Code) : Type 0 where
  pub extends : Extends old new
  pub sized : here new ≤ here old + suc (3 * length xs)
  pub back : ℕ
  pub up : here old ≤ back
  pub end : here new ≡ suc back
  pub high : height ≡ words_returned s xs
  pub stands : (i : Sections) → Holds i (here old) new → AreReturned i s (here old) back xs
  pub returns : (i : Sections) → Holds i (here old) new → At i back op.Return
  pub flows : (i : Sections) (q : Subprogram) → Holds i (here old) new → HaveFormalRoom s xs i q → new.deepest ≤ q.stack → q.results ≡ height
      → AreKeptBetween i q (here old) back (here old) (here new) 0
