-- What `format` leaves on standard output, by its exit status.
use Rattle.std.specs.Prelude.{◌≡◌, ◌<◌, ◌≤◌, ◌⊎◌, ℕ, List, Option, length}
use Rattle.std.specs.Io.KnownBytes.{Appends}
use Rattle.base.specs.declared.limits.TheConstants.{TEXT_LIMIT}
use Rattle.file_limits.specs.declared.TheConstants.{SOURCE_BYTES}
use Rattle.lexer.specs.Spelling.{Spells}
use Rattle.lexer.specs.declared.fault.Fault.{Fault}
use Rattle.lexer.specs.declared.token.Token.{Token}
use Rattle.machine.specs.Written.{AppendsBeginning}
use Rattle.printing.specs.Layout.{formatted}
use Rattle.adarun.specs.Accepted.{IsMisspelled}
use Rattle.adarun.specs.Reading.{Contents, IsBeginningRead, IsContentRead}
use Rattle.adarun.specs.declared.program.Status.{Status}
use Rattle.adarun.specs.declared.program.Status.TheVariants.{Done, Failed, NoMemory, SourceRefused}

-- the layout of a text that tokens spell, which may have as many bytes as a text (docs/FORMATS.md, "Layout")
pub record HasLayout (text layout : List ℕ) : Type 0 where
  pub tokens : List Token
  pub spells : Spells text tokens
  pub layout_is : layout ≡ formatted spells
  pub short : length layout ≤ TEXT_LIMIT

-- the source was read, and its layout was written
pub record HasFormatted (contents : Contents) (source : List ℕ) (old new : Option (List ℕ)) : Type 0 where
  pub text : List ℕ
  pub source_read : IsContentRead (contents source) text
  pub layout : List ℕ
  pub has_layout : HasLayout text layout
  pub written : Appends old new layout

-- a beginning of the layout was written
pub record HasBegunFormatting (contents : Contents) (source : List ℕ) (old new : Option (List ℕ)) : Type 0 where
  pub text : List ℕ
  pub source_read : IsContentRead (contents source) text
  pub layout : List ℕ
  pub has_layout : HasLayout text layout
  pub begins : AppendsBeginning old new layout

-- the beginning of the source was read that decides, and breaks a rule of spelling
pub record HasMisspelledSource (contents : Contents) (source : List ℕ) (old new : Option (List ℕ)) : Type 0 where
  pub text : List ℕ
  pub source_read : IsBeginningRead (contents source) SOURCE_BYTES text
  pub fault : Fault
  pub misspelled : IsMisspelled text fault
  pub unwritten : new ≡ old

-- A layout that would have more bytes than a text may have isn't written.
abbrev pub LeavesFormat : Contents → List ℕ → Status → Option (List ℕ) → Option (List ℕ) → Type 0
LeavesFormat contents source Done old new = HasFormatted contents source old new
LeavesFormat contents source SourceRefused old new = HasMisspelledSource contents source old new
LeavesFormat contents source NoMemory old new = new ≡ old
LeavesFormat contents source Failed old new = (new ≡ old) ⊎ HasBegunFormatting contents source old new
LeavesFormat contents source status old new = ⊥
