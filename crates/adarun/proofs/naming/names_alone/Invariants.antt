use Rattle.std.proofs.Common.{◌≡◌, ◌++◌, drop}
use Rattle.adarun.specs.Naming.{names_alone}
use Rattle.adarun.proofs.naming.names_alone.Given as goal

-- what is left is still to be added
abbrev pub invariant-loop-names_of : goal.invariant-loop-names_of
invariant-loop-names_of l = l.names.items ++ names_alone (drop l.names_of-index l.fn.objects) ≡ names_alone l.fn.objects
