-- Subprograms whose code keeps the rules of images, one behind another, make an image that keeps those on code (docs/FORMATS.md, 43 to 47); the contract of a
-- public
-- function.
use Rattle.std.specs.Prelude.{◌≡◌, ℕ, suc, Bool, ◌+◌, ◌≤◌, List, [], ◌∷◌, length, true, ⊤}
use Rattle.std.specs.List.{list_all}
use Rattle.base.specs.declared.limits.TheConstants.{FRAME_WORDS}
use Rattle.image.specs.Rules.{all_begun, all_placed, has_depth, has_ends, has_object, in_holder, is_closed, is_entry_of_object, is_subprogram, is_task_body, jumps_within, keeps_depth, last_end, names_things, operands_in_range}
use Rattle.image.specs.Sections.{Sections}
use Rattle.image.specs.declared.instruction.Operation.TheVariants as op
use Rattle.image.specs.declared.subprograms.Subprogram.{Subprogram}
use Rattle.expr_code.specs.Code.{Holds, here}
use Rattle.expr_code.specs.Flows.{AreKeptBetween}
use Rattle.expr_code.specs.Views.{At}
use Rattle.expr_code.specs.declared.visible.Visible.{Visible}
use Rattle.stmt_code.specs.Emitting.{HasLabels}
use Rattle.stmt_code.specs.Subprograms.{HasSubprogramWords, KeepsRules, SuitsBody}
use Rattle.stmt_code.specs.declared.draft.Draft.{Draft}
use Rattle.stmt_code.specs.declared.subprogram.SubprogramWords.{SubprogramWords}

-- the protected object to which it belongs, if any, is one of the image, whose entry has this number if it is the body of one; and it is passed and gives back
-- nothing if it is that of a task
pub record IsOfImage (i : Sections) (number : ℕ) (s : Subprogram) : Type 0 where
  pub object : has_object i s ≡ true
  pub entry : is_entry_of_object i number s.kind ≡ true
  pub bare : is_task_body s.kind ≡ true → (s.parameters ≡ 0) × (s.results ≡ 0)

-- the code of the subprogram with this number begins there, ends with a return, and keeps the rules
pub record KeepsSubprogramRules (i : Sections) (number first : ℕ) (s : Subprogram) : Type 0 where
  pub belongs : IsOfImage i number s
  pub passed : s.parameters ≤ s.locals
  pub fits : s.locals + s.stack ≤ FRAME_WORDS
  pub last : ℕ
  pub up : first ≤ last
  pub end : s.end_ ≡ suc last
  pub returns : At i last op.Return
  pub kept : AreKeptBetween i s first last first s.end_ 0

-- each of them, where the one before it ends, with the next number
abbrev pub AreAllKept : Sections → (number first : ℕ) → List Subprogram → Type 0
AreAllKept i number first [] = ⊤
AreAllKept i number first (s ∷ rest) = KeepsSubprogramRules i number first s × AreAllKept i (number + 1) s.end_ rest

-- the tests of an image's instructions and subprograms
pub record PassesOnCode (i : Sections) : Type 0 where
  pub operands : operands_in_range i ≡ true
  pub jumps : all_placed (jumps_within i) 0 i.instructions ≡ true
  pub closed : list_all (is_closed i) i.subprograms ≡ true
  pub named : all_placed (λ place x. in_holder i place (λ s. names_things i s x.operation)) 0 i.instructions ≡ true
  pub have_objects : list_all (has_object i) i.subprograms ≡ true
  pub depths : all_placed (λ place x. in_holder i place (keeps_depth i place x)) 0 i.instructions ≡ true
  pub empty : all_begun (λ first s. has_depth i first 0) 0 i.subprograms ≡ true
  pub ends : has_ends i ≡ true
  pub subprograms : all_placed (is_subprogram i) 0 i.subprograms ≡ true

pub record KeptCodePasses : Type 0 where
  -- what methods add is such code
  pub added : (stores : Bool) (v : Visible) (old new : Draft) (words : SubprogramWords) → KeepsRules stores v old words new → (i : Sections) (number : ℕ)
      (s : Subprogram)
      → Holds i (here old.code) new.code
      → HasLabels i new.labels → HasSubprogramWords s words → SuitsBody stores v i s → s.end_ ≡ here new.code → IsOfImage i number s
      → KeepsSubprogramRules i number (here old.code) s
  -- an image of nothing else passes
  pub whole : (i : Sections) → AreAllKept i 0 0 i.subprograms → last_end i.subprograms ≡ length i.instructions → PassesOnCode i
