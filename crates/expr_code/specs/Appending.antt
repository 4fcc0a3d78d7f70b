-- When instructions that were put together are added to code: where each keeps the limits of images (docs/FORMATS.md).
use Rattle.std.specs.Prelude.{◌≡◌, ◌+◌, ◌≤◌, ◌<◌, true, false, List, [], ◌∷◌, ◌++◌, length, max, ⊤}
use Rattle.std.specs.List.{list_all}
use Rattle.base.specs.declared.limits.TheConstants.{FRAME_WORDS, INSTRUCTIONS}
use Rattle.image.specs.Rules.{has_operands}
use Rattle.image.specs.declared.instruction.Instr.{Instr}
use Rattle.expr_code.specs.Code.{here}
use Rattle.expr_code.specs.Pieces.{deepest_of}
use Rattle.expr_code.specs.declared.code.Code.{Code}
use Rattle.expr_code.specs.declared.refusal.ImageLimit.{ImageLimit}
use Rattle.expr_code.specs.declared.refusal.ImageLimit.TheVariants as limits
use Rattle.expr_code.specs.declared.refusal.Refusal.{Refusal}
use Rattle.expr_code.specs.declared.refusal.Refusal.TheVariants as refusal

-- it finds no more words than a frame may have, and has operands that an image may have
abbrev pub IsEncodable : Instr → Type 0
IsEncodable x = (x.depth ≤ FRAME_WORDS) × (has_operands x.operation ≡ true)

abbrev pub AllKeep : List Instr → Type 0
AllKeep [] = ⊤
AllKeep (x ∷ xs) = IsEncodable x × AllKeep xs

-- these instructions after the old ones
pub record Appends (old : Code) (code : List Instr) (new : Code) : Type 0 where
  pub items : new.instructions.items ≡ old.instructions.items ++ code
  pub deepest : new.deepest ≡ max old.deepest (deepest_of code)
  pub keep : AllKeep code
  pub few : here new ≤ INSTRUCTIONS

-- which limit they pass
abbrev pub PassesLimit : Code → List Instr → ImageLimit → Type 0
PassesLimit old code limits.Instructions = INSTRUCTIONS < here old + length code
PassesLimit old code limits.Frame = FRAME_WORDS < deepest_of code
PassesLimit old code limits.Block = list_all (λ x. has_operands x.operation) code ≡ false
PassesLimit old code other = ⊥

abbrev pub Misfits : Code → List Instr → Refusal → Type 0
Misfits old code refusal.Memory = ⊤
Misfits old code (refusal.Limit limit) = PassesLimit old code limit
