-- Parts of the code of statements: what stores a value, the word of an object without initial value, the words of a frame that are taken.
use Rattle.std.specs.Prelude.{◌≡◌, ℕ, ◌+◌, ◌≤◌, true, cond, length, nat_eq, Option, Some, None, pos, ⊤, ℤ}
use Rattle.ada_tree.specs.ExpressionTree.{ExprTree}
use Rattle.image.specs.Sections.{Sections}
use Rattle.image.specs.Rules.{has_depth}
use Rattle.image.specs.declared.instruction.Operation.{Operation}
use Rattle.image.specs.declared.instruction.Operation.TheVariants as op
use Rattle.image.specs.declared.instruction.Region.{Region}
use Rattle.image.specs.declared.instruction.Region.TheVariants as regions
use Rattle.types.specs.declared.entity.Subtype.{Subtype}
use Rattle.types.specs.Entities.{Booleans, Integers, Spans, Times, TypeForm}
use Rattle.types.specs.Scopes.{Scope}
use Rattle.expr_code.specs.Emitting.{IsFit}
use Rattle.expr_code.specs.declared.visible.Slot.{Slot}
use Rattle.expr_code.specs.declared.visible.Visible.{Visible}
use Rattle.part_code.specs.Statements.{Ways}
use Rattle.part_code.specs.declared.frame_words.FrameWords.{FrameWords}
use Rattle.part_code.specs.declared.leaving.Leaving.{Leaving}

-- ---- what is asked

-- the ways out, as places of code
abbrev pub ways_of : Leaving → Ways
ways_of l = record { exit = l.exit; return = l.return_; handled = l.handled }

-- so many words of the frame more are taken
pub record TakesWords (old : FrameWords) (many : ℕ) (new : FrameWords) : Type 0 where
  pub taken : new.taken ≡ old.taken + many
  pub grows : old.most ≤ new.most
  pub most : new.taken ≤ new.most

-- ---- what is known where the code stands

-- a place that may be gone to with an empty operand stack
pub record IsReachable (i : Sections) (low high place : ℕ) : Type 0 where
  pub down : low ≤ place
  pub up : place ≤ high
  pub empty : has_depth i place 0 ≡ true

-- ---- stores

-- what stores a word there
abbrev pub stored_in : Region → (offset : ℕ) → Operation
stored_in regions.Locals n = op.StoreLocal n
stored_in regions.Plain n = op.StorePlain n
stored_in regions.Object n = op.StoreObject n

-- what stores so many words of a value there, at the address below them on the operand stack
abbrev pub stored_at : Region → (words : ℕ) → Operation
stored_at r n = cond (nat_eq n 1) (op.StoreIndexed r) (op.StoreBlock r n)

abbrev pub store_operation : Slot → Operation
store_operation x = stored_in x.region x.offset

-- ---- declarations

-- the word of an object of one word without initial value
abbrev pub first_word : Option TypeForm → Subtype → Option ℤ
first_word (Some Integers) t = Some t.first
first_word (Some Booleans) t = Some (pos 0)
first_word (Some Times) t = Some (pos 0)
first_word (Some Spans) t = Some (pos 0)
first_word form t = None

-- the value that is given, if any, is fit for the subtype
abbrev pub FitsIfAny : Scope → Subtype → Option ExprTree → Type 0
FitsIfAny s t (Some e) = IsFit s t e
FitsIfAny s t None = ⊤

-- there is an entry for each name
pub record HasEntries (v : Visible) : Type 0 where
  pub slots : length v.slots ≡ length v.scope
  pub subprograms : length v.subprograms ≡ length v.scope
