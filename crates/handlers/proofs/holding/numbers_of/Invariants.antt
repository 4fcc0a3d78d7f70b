use Rattle.std.proofs.Common.{◌≡◌, [], drop}
use Rattle.handlers.specs.Holding.{held}
use Rattle.handlers.proofs.holding.numbers_of.Given as goal

-- the ends that are left decide
abbrev pub invariant-loop-number : goal.invariant-loop-number
invariant-loop-number l = held l.number l.numbers.items (drop l.number l.fn.ends) ≡ held 0 [] l.fn.ends
