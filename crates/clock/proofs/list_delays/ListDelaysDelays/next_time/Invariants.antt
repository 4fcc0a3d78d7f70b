use Rattle.std.proofs.Common.{◌≡◌, drop}
use Rattle.clock.specs.Sleepers.{least}
use Rattle.clock.proofs.list_delays.ListDelaysDelays.next_time.Given as goal

abbrev pub invariant-loop-sleeper : goal.invariant-loop-sleeper
invariant-loop-sleeper l = least l.time (drop l.sleeper-index l.rest) ≡ least l.initial.time l.rest
