use Rattle.std.proofs.Common.{◌≡◌, drop}
use Rattle.types.specs.Knowing.{finding, found_after}
use Rattle.types.proofs.scope.Scope.+known.Given as goal

abbrev pub invariant-known_after-loop-operand : goal.invariant-known_after-loop-operand
invariant-known_after-loop-operand l = found_after l.self (finding l.known) (drop l.operand-index l.operands) ≡ found_after l.self (finding l.fn.first) l.operands
