use Rattle.std.proofs.Common.{◌≡◌, ◌++◌, drop, []}
use Rattle.size_rules.specs.Limits.{first_uses}
use Rattle.size_rules.proofs.passing.first_uses.Given as goal

abbrev pub invariant-loop-thing : goal.invariant-loop-thing
invariant-loop-thing l = l.places.items ++ first_uses l.labels (drop l.thing-index l.things) ≡ first_uses [] l.things
