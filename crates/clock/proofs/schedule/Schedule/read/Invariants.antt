use Rattle.std.proofs.Common.{◌≡◌, length, ◌-◌, IsTrue}
use Rattle.base.specs.Schedule.{is_schedule}
use Rattle.base.specs.declared.limits.TheConstants.{SCHEDULE_LINES}
use Rattle.clock.specs.Schedules.{BeginsWithLines, last_time}
use Rattle.clock.proofs.schedule.Schedule.read.Given as goal

abbrev pub invariant-loop-rest : goal.invariant-loop-rest
invariant-loop-rest l = BeginsWithLines l.fn.text l.lines.items l.rest × (IsTrue (is_schedule l.lines.items) × (l.last ≡ last_time l.lines.items))

abbrev pub decreases-loop-rest : goal.decreases-loop-rest
decreases-loop-rest l = SCHEDULE_LINES - length l.lines.items
