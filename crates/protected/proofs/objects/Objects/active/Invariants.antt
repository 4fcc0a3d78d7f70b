use Rattle.std.proofs.Common.{◌≡◌, drop}
use Rattle.protected.specs.Actions.{active_of, raised}
use Rattle.protected.proofs.objects.Objects.active.Given as goal

abbrev pub invariant-loop-object : goal.invariant-loop-object
invariant-loop-object l = raised l.self.ceilings l.active (drop l.object-index l.object-items) ≡ active_of l.self l.task
