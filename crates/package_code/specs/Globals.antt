-- What is told of the package by its declarations alone: where its variables stand, the words of their initial values, and the names of exceptions.
use Rattle.std.specs.Prelude.{◌≡◌, ◌<◌, ℕ, Bool, true, ◌||◌, ◌&&◌, List, [], ◌∷◌, ◌++◌, length, Some, is_none, is_some, slice_set, ⊤}
use Rattle.base.specs.Names.{predefined}
use Rattle.base.specs.declared.limits.TheConstants.{WORDS}
use Rattle.ada_tree.specs.StatementTree.{ObjectTree}
use Rattle.ada_tree.specs.ProgramTree.{ItemTree, OfObject}
use Rattle.image.specs.declared.instruction.Region.TheVariants as regions
use Rattle.types.specs.declared.entity.Subtype.{Subtype}
use Rattle.types.specs.Scopes.{Scope, number_of}
use Rattle.types.specs.Shapes.{value_words}
use Rattle.type_rules.specs.SubtypeNames.{subtype_of}
use Rattle.expr_soundness.specs.meaning.specs.Programs.{exceptions_among, initial_value, variables_among}
use Rattle.expr_code.specs.Seeing.{told_of}
use Rattle.expr_code.specs.declared.refusal.ImageLimit.TheVariants as limits
use Rattle.expr_code.specs.declared.refusal.Refusal.{Refusal}
use Rattle.expr_code.specs.declared.refusal.Refusal.TheVariants as refusal
use Rattle.expr_code.specs.declared.visible.Slot.{Slot}
use Rattle.package_code.specs.Package.{first_words_of, place_among}
use Rattle.package_code.specs.declared.globals.Globals.{Globals}

-- The variables among these declarations stand one behind another, in the order of the text. Names are told by their numbers in `s`, in which all of the
-- package is visible.
pub record AreGlobals (s : Scope) (items : List ItemTree) (g : Globals) : Type 0 where
  pub slots : (name : List ℕ) → told_of s g.slots.items name ≡ place_among 0 (variables_among s items) name
  -- an entry for each name
  pub many : length g.slots.items ≡ length s
  pub words : g.words.items ≡ first_words_of (variables_among s items)
  -- each of them has a word
  pub within : (name : List ℕ) (slot : Slot) → told_of s g.slots.items name ≡ Some slot → slot.offset < length g.words.items
  pub exceptions : g.exceptions.items ≡ predefined ++ exceptions_among items

-- each variable among declarations behind these ones has a place of its own: its name is visible, and none in front has it
abbrev pub is_placed : Scope → (front : List ItemTree) → ItemTree → Bool
is_placed s front (OfObject d) = d.constant || (is_some (number_of s d.name.name) && is_none (place_among 0 (variables_among s front) d.name.name))
is_placed s front d = true

abbrev pub are_placed : Scope → (front : List ItemTree) → List ItemTree → Bool
are_placed s front [] = true
are_placed s front (d ∷ rest) = is_placed s front d && are_placed s (front ++ d ∷ []) rest

-- these declarations were added, whatever stands in front of them, where each variable among them has a place of its own
pub record AddsItems (s : Scope) (old : Globals) (items : List ItemTree) (new : Globals) : Type 0 where
  pub are : (front : List ItemTree) → AreGlobals s front old → are_placed s front items ≡ true → AreGlobals s (front ++ items) new

-- the variable of this name stands behind the words of the others, if the name is visible
abbrev pub PlacesVariable : Scope → (old : Globals) → (name : List ℕ) → (new : Globals) → Type 0
PlacesVariable s old name new =
    (number : ℕ) → number_of s name ≡ Some number
    → new.slots.items ≡ slice_set old.slots.items number (Some (record { region = regions.Plain; offset = length old.words.items }))

-- one variable more, behind the words of the others
pub record AddsVariable (s : Scope) (old : Globals) (d : ObjectTree) (new : Globals) : Type 0 where
  pub subtype : Subtype
  pub named : subtype_of s d.subtype ≡ Some subtype
  pub placed : PlacesVariable s old d.name.name new
  pub words : new.words.items ≡ old.words.items ++ value_words (initial_value s subtype d.value)
  pub some : length old.words.items < length new.words.items
  pub exceptions : new.exceptions ≡ old.exceptions

-- ---- refusals, where these declarations stand in front

-- why what declarations tell isn't found: for want of memory, or because variables have too many words
abbrev pub RefusesGlobals : Scope → (front items : List ItemTree) → Refusal → Type 0
RefusesGlobals s front items refusal.Memory = ⊤
RefusesGlobals s front items (refusal.Limit limits.Words) = WORDS < length (first_words_of (variables_among s (front ++ items)))
RefusesGlobals s front items why = ⊥

-- whatever was added in front
abbrev pub RefusesAdding : Scope → (old : Globals) → (items : List ItemTree) → Refusal → Type 0
RefusesAdding s old items why = (front : List ItemTree) → AreGlobals s front old → are_placed s front items ≡ true → RefusesGlobals s front items why
