use Rattle.std.proofs.Common.{◌≡◌, drop}
use Rattle.remedies.specs.Likeness.{first_predefined}
use Rattle.remedies.proofs.likeness.first_predefined.Given as goal

-- what is left decides
abbrev pub invariant-loop-known : goal.invariant-loop-known
invariant-loop-known l = first_predefined (drop l.known-index l.fn.names) l.fn.name ≡ first_predefined l.fn.names l.fn.name
