use Rattle.std.proofs.Common.{◌≡◌, ◌++◌, ℕ}
use Rattle.measuring.specs.Tables.{IsGrid}
use Rattle.measuring.specs.Text.{below, shown_usage}
use Rattle.measuring.specs.declared.usage.UsageMeasures.{UsageMeasures}
use Rattle.measuring.proofs.text.add_usages_of.Given as goal

abbrev pub invariant-loop-object : goal.invariant-loop-object
invariant-loop-object l =
    (u : ℕ → ℕ → UsageMeasures) → IsGrid l.fn.usages u
    → l.text.items ≡ l.fn.text.items ++ below l.object (shown_usage l.fn.form l.fn.image l.fn.names u l.fn.actor)
