use Rattle.std.proofs.Common.{◌≡◌, ◌++◌, ℕ}
use Rattle.measuring.specs.Tables.{IsTable}
use Rattle.measuring.specs.Text.{below, shown_frames}
use Rattle.measuring.specs.declared.actor.ActorMeasures.{ActorMeasures}
use Rattle.measuring.proofs.text.add_frames.Given as goal

abbrev pub invariant-loop-actor : goal.invariant-loop-actor
invariant-loop-actor l =
    (m : ℕ → ActorMeasures) → IsTable l.fn.actors m → l.text.items ≡ l.fn.text.items ++ below l.actor (shown_frames l.fn.form l.fn.image m)
