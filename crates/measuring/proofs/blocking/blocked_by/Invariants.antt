use Rattle.std.proofs.Common.{◌≡◌, ℕ}
use Rattle.image.specs.Code.{partition_of}
use Rattle.measuring.specs.Measures.{blocked_by}
use Rattle.measuring.specs.Tables.{IsGrid}
use Rattle.measuring.specs.declared.usage.UsageMeasures.{UsageMeasures}
use Rattle.measuring.proofs.blocking.blocked_by.Given as goal

abbrev pub invariant-loop-object : goal.invariant-loop-object
invariant-loop-object l =
    (usage : ℕ → ℕ → UsageMeasures) → IsGrid l.fn.usages usage
    → l.most ≡ blocked_by (partition_of l.fn.image) l.object (λ o. (usage l.fn.actor o).longest_action) l.fn.waiting l.fn.actor
