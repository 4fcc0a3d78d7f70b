-- Which limits of images the code of an accepted text may pass: its length alone if its bodies are small, and none if it is.
use Rattle.std.specs.Prelude.{◌<◌, ◌⊎◌, List, max}
use Rattle.base.specs.declared.limits.TheConstants.{FRAME_WORDS, INSTRUCTIONS, ROWS}
use Rattle.lexer.specs.declared.token.Token.{Token}
use Rattle.ada_tree.specs.ProgramTree.{ProgramTree}
use Rattle.ada_tree.specs.Language.{Limit}
use Rattle.ada_tree.specs.ProgramGrammar.{program}
use Rattle.legality.specs.ProgramRules.{IsLegal}
use Rattle.program_soundness.specs.ravenscar.specs.ProgramRules.{IsRestricted}
use Rattle.expr_code.specs.declared.refusal.ImageLimit.{ImageLimit}
use Rattle.expr_code.specs.declared.refusal.Refusal.TheVariants as refusal
use Rattle.package_code.specs.Refusing.{RefusesLinking, program_bound, program_needs, program_rows}
use Rattle.source_laws.specs.Depths.{StaysWithinLimits}
use Rattle.source_laws.specs.Small.{HasSmallBodies, IsSmall}

-- frames and operand stacks of small bodies have room
abbrev pub SmallHasRoom : Type 0
SmallHasRoom = (limit : Limit) (t : ProgramTree) (tokens : List Token) → program limit t tokens
    → IsLegal t → IsRestricted t → HasSmallBodies t → StaysWithinLimits (program_needs t)

-- the code of all bodies may have more instructions, or more rows of handlers, than an image
abbrev pub IsLong : ProgramTree → Type 0
IsLong t = (INSTRUCTIONS < program_bound t) ⊎ (ROWS < program_rows t)

-- a frame or its operand stack may need more words than a frame has
abbrev pub HasLargeFrames : ProgramTree → Type 0
HasLargeFrames t = FRAME_WORDS < max (program_needs t).stack (program_needs t).frame

-- Which limits the code of a text may pass: all of it is long, or, where not each body is small, a frame is large.
abbrev pub MayPassLimits : ProgramTree → Type 0
MayPassLimits t = IsLong t ⊎ (HasLargeFrames t × (HasSmallBodies t → ⊥))

-- an accepted text passes no other ones
abbrev pub LimitsAreTold : Type 0
LimitsAreTold = (limit : Limit) (t : ProgramTree) (tokens : List Token) → program limit t tokens → IsLegal t → IsRestricted t
    → (passed : ImageLimit) → RefusesLinking t (refusal.Limit passed) → MayPassLimits t

-- and a small one passes none
abbrev pub SmallIsUnlimited : Type 0
SmallIsUnlimited = (limit : Limit) (t : ProgramTree) (tokens : List Token) → program limit t tokens → IsLegal t → IsRestricted t
    → IsSmall t tokens → MayPassLimits t → ⊥
