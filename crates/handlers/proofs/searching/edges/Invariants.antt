use Rattle.std.proofs.Common.{◌≡◌, ◌++◌, drop}
use Rattle.handlers.proofs.searching.edges.Given as goal

abbrev pub invariant-loop-place : goal.invariant-loop-place
invariant-loop-place l = l.edges.items ++ drop l.place-index l.fn.places ≡ l.fn.places
