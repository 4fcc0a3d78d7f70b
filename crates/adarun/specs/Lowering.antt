-- What `lower` leaves on standard output, by its exit status.
use Rattle.std.specs.Prelude.{◌≡◌, ◌⊎◌, ℕ, List, Option}
use Rattle.std.specs.Io.KnownBytes.{Appends}
use Rattle.file_limits.specs.declared.TheConstants.{SOURCE_BYTES}
use Rattle.lowering.specs.Lowering.{IsLowered}
use Rattle.text_edits.specs.Edits.{line_feeds}
use Rattle.machine.specs.Written.{AppendsBeginning}
use Rattle.adarun.specs.Reading.{Contents, IsBeginningRead, IsContentRead}
use Rattle.adarun.specs.declared.program.Status.{Status}
use Rattle.adarun.specs.declared.program.Status.TheVariants.{Done, Failed, NoMemory, SourceRefused}

-- a text that comes from another one by rounds of edits, and has as many lines
pub record IsLoweredText (text lowered : List ℕ) : Type 0 where
  pub by_edits : IsLowered text lowered
  pub lines : line_feeds lowered ≡ line_feeds text

-- the source was read, and a lowered text of it was written
pub record HasLowered (contents : Contents) (source : List ℕ) (old new : Option (List ℕ)) : Type 0 where
  pub text : List ℕ
  pub source_read : IsContentRead (contents source) text
  pub lowered : List ℕ
  pub is_lowered : IsLoweredText text lowered
  pub written : Appends old new lowered

-- a beginning of a lowered text was written
pub record HasBegunLowering (contents : Contents) (source : List ℕ) (old new : Option (List ℕ)) : Type 0 where
  pub text : List ℕ
  pub source_read : IsContentRead (contents source) text
  pub lowered : List ℕ
  pub is_lowered : IsLoweredText text lowered
  pub begins : AppendsBeginning old new lowered

-- the beginning of the source was read that decides, and nothing was written
pub record HasUnloweredSource (contents : Contents) (source : List ℕ) (old new : Option (List ℕ)) : Type 0 where
  pub text : List ℕ
  pub source_read : IsBeginningRead (contents source) SOURCE_BYTES text
  pub unwritten : new ≡ old

-- For which texts a source is refused no clause says.
abbrev pub LeavesLowered : Contents → List ℕ → Status → Option (List ℕ) → Option (List ℕ) → Type 0
LeavesLowered contents source Done old new = HasLowered contents source old new
LeavesLowered contents source SourceRefused old new = HasUnloweredSource contents source old new
LeavesLowered contents source NoMemory old new = new ≡ old
LeavesLowered contents source Failed old new = (new ≡ old) ⊎ HasBegunLowering contents source old new
LeavesLowered contents source status old new = ⊥

-- the status of a source that isn't lowered
abbrev pub IsUnlowered : Status → Type 0
IsUnlowered status = (status ≡ SourceRefused) ⊎ (status ≡ NoMemory)
