use Rattle.std.proofs.Common.{◌≡◌, ◌++◌, drop, map}
use Rattle.handlers.specs.Searching.{next_covering}
use Rattle.handlers.proofs.searching.pieces.Given as goal

abbrev pub invariant-loop-place : goal.invariant-loop-place
invariant-loop-place l =
    l.pieces.items ++ map (λ p. next_covering p 0 l.fn.rows) (drop l.place-index l.fn.places) ≡ map (λ p. next_covering p 0 l.fn.rows) l.fn.places
