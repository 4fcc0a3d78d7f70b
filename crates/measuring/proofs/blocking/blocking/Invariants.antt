use Rattle.std.proofs.Common.{◌≡◌, ℕ}
use Rattle.image.specs.Code.{partition_of}
use Rattle.measuring.specs.Measures.{blocking}
use Rattle.measuring.specs.Tables.{IsGrid}
use Rattle.measuring.specs.declared.usage.UsageMeasures.{UsageMeasures}
use Rattle.measuring.proofs.blocking.blocking.Given as goal

abbrev pub invariant-loop-actor : goal.invariant-loop-actor
invariant-loop-actor l =
    (usage : ℕ → ℕ → UsageMeasures) → IsGrid l.fn.usages usage
    → l.most ≡ blocking (partition_of l.fn.image) l.actor (λ u o. (usage u o).longest_action) l.fn.waiting
