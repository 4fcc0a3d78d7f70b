use Rattle.std.proofs.Common.{◌≡◌, ◌+◌, ◌-◌, ◌≤◌, length}
use Rattle.endings.specs.declared.sources.TheConstants.{ACTORS}
use Rattle.endings.proofs.Noted.{Follows}
use Rattle.endings.proofs.last_steps.follow.Given as goal

abbrev pub invariant-loop-step : goal.invariant-loop-step
invariant-loop-step g l = record {
  follows : Follows l.fn.machine.image l.fn.machine.schedule l.fn.machine l.fn.lasts l.step l.machine l.lasts;
  image : l.machine.image ≡ l.fn.machine.image;
  schedule : l.machine.schedule ≡ l.fn.machine.schedule;
  room : length l.lasts ≡ ACTORS;
  up : l.step ≤ l.fn.count;
  few : l.steps ≤ l.fn.steps + l.step;
}

abbrev pub decreases-loop-step : goal.decreases-loop-step
decreases-loop-step g l = l.fn.count - l.step
