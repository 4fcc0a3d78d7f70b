use Rattle.std.proofs.Common.{◌≡◌, ◌++◌, replicate}
use Rattle.handlers.proofs.holding.hold_up_to.Given as goal

abbrev pub invariant-loop : goal.invariant-loop
invariant-loop l = l.numbers.items ≡ l.fn.numbers.items ++ replicate l.counter l.number
