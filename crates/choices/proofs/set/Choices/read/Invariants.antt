use Rattle.std.proofs.Common.{◌-◌, length}
use Rattle.base.specs.declared.limits.TheConstants.{SCHEDULE_LINES}
use Rattle.choices.proofs.Building.{Reading}
use Rattle.choices.proofs.set.Choices.read.Given as goal

abbrev pub invariant-loop-rest : goal.invariant-loop-rest
invariant-loop-rest l = Reading l.until l.fn.text l.rest l.slots.items l.number

abbrev pub decreases-loop-rest : goal.decreases-loop-rest
decreases-loop-rest l = SCHEDULE_LINES - length l.slots.items
