use Rattle.std.proofs.Common.{◌≡◌, ◌++◌, ℕ}
use Rattle.measuring.specs.Tables.{IsGrid, IsTable}
use Rattle.measuring.specs.Text.{below, shown_work}
use Rattle.measuring.specs.declared.actor.ActorMeasures.{ActorMeasures}
use Rattle.measuring.specs.declared.usage.UsageMeasures.{UsageMeasures}
use Rattle.measuring.proofs.text.add_work.Given as goal

abbrev pub invariant-loop-actor : goal.invariant-loop-actor
invariant-loop-actor l =
    (m : ℕ → ActorMeasures) (u : ℕ → ℕ → UsageMeasures) → IsTable l.fn.actors m → IsGrid l.fn.usages u
    → l.text.items ≡ l.fn.text.items ++ below l.actor (shown_work l.fn.form l.fn.image m u)
