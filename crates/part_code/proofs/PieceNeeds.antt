-- Pieces that keep within what is needed.
use Rattle.std.proofs.Common.{◌≡◌, ◌≤◌, ◌∙◌, ℕ, ◌+◌, length, true, arith, length-append}
use Rattle.image.specs.declared.instruction.Operation.{Operation}
use Rattle.kernel.specs.Laws.{QuietStays}
use Rattle.types.specs.Laws.{PartsHavePlaces, ValuesHaveWords}
use Rattle.expr_soundness.specs.BoundsLaw.{AllValuesLie, ChecksAreSpared}
use Rattle.expr_soundness.specs.Laws.{ExpressionsAreTyped}
use Rattle.expr_code.specs.Pieces.{Piece, one, ◌▸◌}
use Rattle.expr_code.specs.Refusing.{HasUnfitObject}
use Rattle.expr_code.specs.Seeing.{Suits}
use Rattle.expr_code.specs.declared.visible.Visible.{Visible}
use Rattle.expr_code.proofs.StandingPieces.{Fits, FitsOr, Suiting, fits_more, fits_under, fits_unless}
use Rattle.part_code.specs.Needs.{Needs, has_unfit}
use Rattle.part_code.specs.Suiting.{SuitsStatements}
use Rattle.part_code.proofs.Within.{Within, unfit_there}

-- the laws by which the code of expressions works
pub record Laws : Type 0 where
  pub quiet : QuietStays
  pub typed : ExpressionsAreTyped
  pub spared : ChecksAreSpared
  pub lie : AllValuesLie
  pub words : ValuesHaveWords
  pub places : PartsHavePlaces

pub laws_of : QuietStays → ExpressionsAreTyped → ChecksAreSpared → AllValuesLie → ValuesHaveWords → PartsHavePlaces → Laws
laws_of quiet typed spared lie words places = record { quiet = quiet; typed = typed; spared = spared; lie = lie; words = words; places = places }

-- ---- what a piece needs

-- it keeps within the words on the operand stack, and has no operands that an image may not have but where it needs what is unfit
abbrev pub Keeps : Needs → Suiting → (long before after : ℕ) → Piece → Type 0
Keeps n S long before after = FitsOr (n.unfit ≡ true) S long n.stack before after

pub keeps_within : (m n : Needs) (S : Suiting) (long before after : ℕ) (a : Piece) → Within m n → Keeps m S long before after a → Keeps n S long before after a
keeps_within m n S long before after a within p =
    fits_more S long long m.stack n.stack before after a (omega arith) within.stack
    (fits_unless (m.unfit ≡ true) (n.unfit ≡ true) S long m.stack before after a within.unfit p)

-- that of an expression
pub expression_keeps : (v : Visible) (depth long after : ℕ) (n : Needs) (a : Piece) → n.unfit ≡ has_unfit v → Fits v long n.stack depth after a
    → Keeps n (SuitsStatements v) long depth after a
expression_keeps v depth long after n a same p =
    fits_under (Suits v) (SuitsStatements v) long n.stack depth after a (λ i s suits. suits.names)
    (fits_unless (HasUnfitObject v) (n.unfit ≡ true) (Suits v) long n.stack depth after a (λ u. same ∙ unfit_there v u) p)

-- it isn't empty where it ends by an instruction
pub some_then : (a : Piece) (d : ℕ) (o : Operation) (base : ℕ) → 1 ≤ length ((a ▸ one d o) base)
unfolding one ◌▸◌
some_then a d o base = let long = length-append (a base) (one d o (base + length (a base))) in omega (arith, long)
