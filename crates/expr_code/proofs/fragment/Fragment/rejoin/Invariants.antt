use Rattle.std.proofs.Common.{◌≡◌, drop}
use Rattle.expr_code.specs.Pieces.{end_of, narrow, rejoined}
use Rattle.expr_code.proofs.fragment.Fragment.rejoin.Given as goal

abbrev pub invariant-loop-place : goal.invariant-loop-place
invariant-loop-place l = rejoined l.self (drop l.place-index l.places) (narrow (end_of l.fn.self)) ≡ rejoined l.fn.self l.places (narrow (end_of l.fn.self))
