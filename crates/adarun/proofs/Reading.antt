-- What is taken of what was read of a file is the whole of it.
use Rattle.std.proofs.Common.{◌≡◌, ◌∙◌, ◌<◌, ℕ, ℤ, List, [], ◌∷◌, inl, inr, length, min, take, Option, Some, None, arith, ap, subst, sym}
use Rattle.std.proofs.lemmas.List.{length-take, take_min}
use Rattle.std.proofs.Math.Seq.{take-length}
use Rattle.base.specs.declared.schedule.ScheduleLine.{ScheduleLine}
use Rattle.choices.specs.Sets.{IsChoicesText}
use Rattle.choices.specs.Slots.{Slot}
use Rattle.clock.specs.Schedules.{IsScheduleText}
use Rattle.file_limits.proofs.Choices.{choices_end}
use Rattle.file_limits.proofs.Schedules.{schedules_end}
use Rattle.file_limits.proofs.Sources.{sources_end}
use Rattle.file_limits.specs.declared.TheConstants.{CHOICES_BYTES, IMAGE_BYTES, SCHEDULE_BYTES, SOURCE_BYTES}
use Rattle.image.specs.Sections.{Sections}
use Rattle.image_format.specs.Bytes.{bytes_of}
use Rattle.lexer.specs.Spelling.{Spells}
use Rattle.lexer.specs.declared.token.Token.{Token}
use Rattle.compiler.specs.ada_tree.specs.ProgramTree.{ProgramTree}
use Rattle.compiler.specs.expr_rules.specs.Faults.{Faults}
use Rattle.adarun.specs.Accepted.{IsTreeOf}
use Rattle.adarun.specs.Reading.{IsBeginningRead, IsContentRead}
use Rattle.adarun.specs.TextFaults.{AreTextFaults}

-- fewer bytes than were asked for are all that there are
pub whole : (content : Option (List ℕ)) (most : ℕ) (text : List ℕ) → IsBeginningRead content most text → length text < most → IsContentRead content text
whole None most text read short = tt
whole (Some content) most text read short =
    let few : length (take most content) < most = subst (λ t. length t < most) read short in
    let all : min most (length content) ≡ length content = (let e = length-take most content in omega (arith, few, e)) in
    read ∙ sym (take_min most content) ∙ ap (λ n. take n content) all ∙ take-length content

module _ (content : Option (List ℕ)) (text lent : List ℕ) (same : lent ≡ text) where
  pub begun : (most : ℕ) → IsBeginningRead content most text → IsBeginningRead content most lent
  begun most read = subst (IsBeginningRead content most) (sym same) read

  pub spelled_whole : (tokens : List Token) → IsBeginningRead content SOURCE_BYTES text → Spells lent tokens → IsContentRead content lent
  spelled_whole tokens read spells = whole content SOURCE_BYTES lent (begun SOURCE_BYTES read) (sources_end lent tokens spells)

  pub source_whole : (tree : ProgramTree) → IsBeginningRead content SOURCE_BYTES text → IsTreeOf tree lent → IsContentRead content lent
  source_whole tree read is = spelled_whole is.tokens read is.spells

  pub faultless_whole : (faults : Faults) → IsBeginningRead content SOURCE_BYTES text → AreTextFaults lent faults → faults ≡ [] → IsContentRead content lent
  faultless_whole faults read (inl first) none = absurd (let e : [] ≡ first.fault ∷ [] = sym none ∙ first.alone in cc)
  faultless_whole faults read (inr tree) none = source_whole tree.tree read tree.is_tree

  pub schedule_whole : (lines : List ScheduleLine) → IsBeginningRead content SCHEDULE_BYTES text → IsScheduleText lent lines → IsContentRead content lent
  schedule_whole lines read is = whole content SCHEDULE_BYTES lent (begun SCHEDULE_BYTES read) (schedules_end lent lines is)

  pub choices_whole : (until : ℤ) (slots : List Slot) → IsBeginningRead content CHOICES_BYTES text → IsChoicesText until lent slots → IsContentRead content lent
  choices_whole until slots read is = whole content CHOICES_BYTES lent (begun CHOICES_BYTES read) (choices_end until lent slots is)

  pub image_whole : (i : Sections) → IsBeginningRead content IMAGE_BYTES text → bytes_of i ≡ lent → length (bytes_of i) < IMAGE_BYTES → IsContentRead content lent
  image_whole i read is short = whole content IMAGE_BYTES lent (begun IMAGE_BYTES read) (subst (λ bytes. length bytes < IMAGE_BYTES) is short)
