use Rattle.std.proofs.Common.{◌≡◌, drop}
use Rattle.stmt_code.specs.Placing.{place_at}
use Rattle.compiler.proofs.places.place_at.Given as goal

abbrev pub invariant-loop-row : goal.invariant-loop-row
invariant-loop-row l = place_at (drop l.row-index l.rows) l.address ≡ place_at l.rows l.address
