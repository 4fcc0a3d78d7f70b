use Rattle.std.proofs.Common.{◌≡◌, take}
use Rattle.tasking.proofs.tasking.sleeping.Given as goal

abbrev pub invariant-loop-sleeper : goal.invariant-loop-sleeper
invariant-loop-sleeper g l = g.D.Delays.sleepers l.delays ≡ take l.sleeper-index l.sleepers
