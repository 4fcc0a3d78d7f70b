-- What it is that code is added to, and that an image holds it.
use Rattle.std.specs.Prelude.{◌≡◌, ℕ, ◌≤◌, List, [], ◌∷◌, ◌++◌, length, max, Some, slice_get}
use Rattle.image.specs.Sections.{Sections}
use Rattle.image.specs.declared.instruction.Operation.{Operation}
use Rattle.expr_code.specs.declared.code.Code.{Code}

-- how many instructions there are
abbrev pub here : Code → ℕ
here c = length c.instructions.items

-- every element of the one list from a place on stands in the other at its place
abbrev pub StandsFrom : {X : Type 0} → ℕ → List X → List X → Type 0
StandsFrom {X} from part whole = (k : ℕ) (x : X) → from ≤ k → slice_get part k ≡ Some x → slice_get whole k ≡ Some x

-- the image holds the instructions from a place on
abbrev pub Holds : Sections → (from : ℕ) → Code → Type 0
Holds i from c = StandsFrom from c.instructions.items i.instructions

-- what stood in the old code stands in the new one
pub record Extends (old new : Code) : Type 0 where
  pub instructions : StandsFrom 0 old.instructions.items new.instructions.items
  pub longer : here old ≤ here new
  pub deeper : old.deepest ≤ new.deepest

-- the same instructions, and as deep
pub record IsAsBefore (old new : Code) : Type 0 where
  pub instructions : new.instructions.items ≡ old.instructions.items
  pub deepest : new.deepest ≡ old.deepest

-- nothing was added that finds more than so many words on the operand stack
abbrev pub IsShallow : (old new : Code) → (words : ℕ) → Type 0
IsShallow old new words = new.deepest ≤ max old.deepest words

-- one more instruction, which finds so many words on the operand stack
pub record Adds (old : Code) (depth : ℕ) (operation : Operation) (new : Code) : Type 0 where
  pub instructions : new.instructions.items ≡ old.instructions.items ++ (record { depth = depth; operation = operation }) ∷ []
  pub deeper : old.deepest ≤ new.deepest
  pub within : depth ≤ new.deepest
  pub shallow : IsShallow old new depth
