use Rattle.lowering.specs.Lowering.{IsLowered}
use Rattle.lowering.proofs.lowering.lower.Given as goal

abbrev pub invariant-loop : goal.invariant-loop
invariant-loop l = IsLowered l.fn.text l.now.items
