-- What is put together, added to the code of a program: its instructions, its rows, its labels and its words of the frame, as far as images have room.
use Rattle.std.specs.Prelude.{◌≡◌, ◌≤◌, ◌<◌, ◌++◌, ◌⊎◌, ℕ, [], length, max}
use Rattle.base.specs.declared.limits.TheConstants.{FRAME_WORDS, LABELS}
use Rattle.expr_code.specs.Appending.{Appends, Misfits}
use Rattle.expr_code.specs.Code.{here}
use Rattle.expr_code.specs.declared.refusal.ImageLimit.TheVariants as limits
use Rattle.expr_code.specs.declared.refusal.Refusal.{Refusal}
use Rattle.expr_code.specs.declared.refusal.Refusal.TheVariants as refusal
use Rattle.part_code.specs.Needs.{HasManyLabels}
use Rattle.stmt_code.specs.Drafting.{Drafted, Sketched}
use Rattle.stmt_code.specs.declared.draft.Draft.{Draft}

-- nothing yet, after the code of a draft
abbrev pub begun_from : Draft → Sketched
begun_from d = record { before = here d.code; made = record { code = []; rows = []; places = []; labels = d.labels; most = 0 } }

pub record IsJoined (old : Draft) (m : Drafted) (new : Draft) : Type 0 where
  pub code : Appends old.code m.code new.code
  pub rows : new.rows.items ≡ old.rows.items ++ m.rows
  pub places : new.rows.places ≡ old.rows.places ++ m.places
  pub labels : new.labels ≡ m.labels
  pub few : length m.labels ≤ LABELS
  pub taken : new.words.taken ≡ old.words.taken
  pub most : new.words.most ≡ max old.words.most m.most
  pub wide : m.most ≤ FRAME_WORDS
  pub exceptions : new.exceptions ≡ old.exceptions

-- more words than a frame may have
abbrev pub HasWideFrame : (words : ℕ) → Refusal → Type 0
HasWideFrame words (refusal.Limit limits.Frame) = FRAME_WORDS < words
HasWideFrame words why = ⊥

abbrev pub Overflows : Draft → Drafted → Refusal → Type 0
Overflows old m why = Misfits old.code m.code why ⊎ (HasManyLabels m.labels why ⊎ HasWideFrame m.most why)
