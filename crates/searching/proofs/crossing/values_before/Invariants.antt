use Rattle.std.proofs.Common.{◌≡◌, ◌⊎◌, ℕ, ℤ, ◌+◌, ◌-◌, ◌<◌, ◌≤◌, drop, get_or, length}
use Rattle.base.specs.Schedule.{input}
use Rattle.base.specs.declared.limits.TheConstants.{CHANNELS}
use Rattle.searching.specs.Meeting.{IsSetAnew}
use Rattle.searching.proofs.crossing.values_before.Given as goal

abbrev pub invariant-loop-channel : goal.invariant-loop-channel
invariant-loop-channel l =
    (length l.values.items ≡ l.channel)
    × ((place : ℕ) (d : ℤ) → place < l.channel
    → IsSetAnew l.time (place + 1) (drop l.front l.slots) ⊎ (get_or l.values.items place d ≡ input l.schedule (place + 1) l.last))
    × (l.channel ≤ CHANNELS)

abbrev pub decreases-loop-channel : goal.decreases-loop-channel
decreases-loop-channel l = CHANNELS - l.channel
