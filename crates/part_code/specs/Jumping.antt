-- Forward jumps, which code takes on its way to the next thing that it does.
use Rattle.std.specs.Prelude.{◌≤◌, ℕ, suc}
use Rattle.image.specs.Sections.{Sections}
use Rattle.image.specs.declared.instruction.Operation.TheVariants as op
use Rattle.expr_code.specs.Views.{At}

module _ (i : Sections) where
  -- forward jumps that lead from one place to another
  pub data Jumps : ℕ → ℕ → Type 0 where
    Here : {a : ℕ} → Jumps a a
    There : {a b c : ℕ} → At i a (op.Jump b) → suc a ≤ b → Jumps b c → Jumps a c
