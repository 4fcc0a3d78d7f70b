use Rattle.std.proofs.Common.{◌≡◌, ◌++◌, drop}
use Rattle.size_rules.specs.Limits.{places_of}
use Rattle.size_rules.proofs.passing.places_of.Given as goal

abbrev pub invariant-loop-thing : goal.invariant-loop-thing
invariant-loop-thing l = l.places.items ++ places_of l.kind (drop l.thing-index l.things) ≡ places_of l.kind l.things
