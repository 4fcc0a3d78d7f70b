use Rattle.std.proofs.Common.{◌≡◌, None}
use Rattle.std.specs.Prelude.{replicate}
use Rattle.package_code.proofs.directory.unseen.Given as goal

abbrev pub invariant-loop : goal.invariant-loop
invariant-loop l = (l.slots ≡ replicate l.counter None) × (l.subprograms ≡ replicate l.counter None)
