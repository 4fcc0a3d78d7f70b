use Rattle.std.proofs.Common.{◌≡◌, ◌++◌, drop, map}
use Rattle.execution.proofs.state.ceilings.Given as goal

-- those of what is left, behind those that stand, are all
abbrev pub invariant-loop-object : goal.invariant-loop-object
invariant-loop-object l = l.ceilings.items ++ map (λ x. x.ceiling) (drop l.object-index l.objects) ≡ map (λ x. x.ceiling) l.objects
