use Rattle.std.proofs.Common.{◌≡◌, drop}
use Rattle.clock.specs.Sleepers.{wake_of}
use Rattle.clock.proofs.list_delays.ListDelaysDelays.wake_time.Given as goal

abbrev pub invariant-loop-sleeper : goal.invariant-loop-sleeper
invariant-loop-sleeper l = wake_of l.task (drop l.sleeper-index l.sleeper-items) ≡ wake_of l.task l.sleeper-items
