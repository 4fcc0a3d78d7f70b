use Rattle.std.proofs.Common.{◌≡◌, ◌++◌, ℕ, length}
use Rattle.measuring.specs.Tables.{IsGrid}
use Rattle.measuring.specs.Text.{below, shown_usage}
use Rattle.measuring.specs.declared.usage.UsageMeasures.{UsageMeasures}
use Rattle.measuring.proofs.text.add_usages.Given as goal

abbrev pub invariant-loop-actor : goal.invariant-loop-actor
invariant-loop-actor l =
    (u : ℕ → ℕ → UsageMeasures) → IsGrid l.fn.usages u
    → l.text.items ≡ l.fn.text.items ++ below l.actor (λ t. below (length l.fn.image.objects) (shown_usage l.fn.form l.fn.image l.fn.names u t))
