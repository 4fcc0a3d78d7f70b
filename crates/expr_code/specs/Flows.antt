-- What added code owes to the rules of images (docs/FORMATS.md, 43 to 46), in every image that holds it: operands, jumps, names, and the depth of the operand
-- stack.
use Rattle.std.specs.Prelude.{◌≡◌, ℕ, ◌≤◌, ◌<◌, true, Some, slice_get}
use Rattle.image.specs.Sections.{Sections}
use Rattle.image.specs.Operations.{jump_target}
use Rattle.image.specs.Rules.{has_depth, has_operands, keeps_depth, names_things}
use Rattle.image.specs.declared.instruction.Instr.{Instr}
use Rattle.image.specs.declared.subprograms.Subprogram.{Subprogram}
use Rattle.expr_code.specs.Code.{here, Holds}
use Rattle.expr_code.specs.declared.code.Code.{Code}

-- the instruction keeps the rules in this subprogram, and jumps between these places alone
pub record KeepsInstructionRules (i : Sections) (s : Subprogram) (low high : ℕ) (place : ℕ) (x : Instr) : Type 0 where
  pub operands : has_operands x.operation ≡ true
  pub names : names_things i s x.operation ≡ true
  pub depth : keeps_depth i place x s ≡ true
  pub jumps : (a : ℕ) → jump_target x.operation ≡ Some a → (low ≤ a) × (a ≤ high)

-- what is found of code between two places: the depth in front of it, within the subprogram's, and that its instructions keep the rules, and jump from `low` to
-- `high`
pub record AreKeptBetween (i : Sections) (s : Subprogram) (low high : ℕ) (from to : ℕ) (depth : ℕ) : Type 0 where
  pub begins : has_depth i from depth ≡ true
  pub shallow : depth ≤ s.stack
  pub each : (k : ℕ) (x : Instr) → from ≤ k → k < to → slice_get i.instructions k ≡ Some x → KeepsInstructionRules i s low high k x

-- the code that was added leads from one depth of the operand stack to another, in a subprogram that suits it
pub record Flows (Suits : Sections → Subprogram → Type 0) (old : Code) (in_ : ℕ) (new : Code) (out : ℕ) : Type 0 where
  pub flows : (i : Sections) (s : Subprogram)
      → Holds i (here old) new
      → Suits i s
      → new.deepest ≤ s.stack
      → out ≤ s.stack
      → has_depth i (here new) out ≡ true
      → AreKeptBetween i s (here old) (here new) (here old) (here new) in_
