use Rattle.std.proofs.Common.{◌≡◌, [], drop}
use Rattle.handlers.specs.Sweeping.{sweeps}
use Rattle.handlers.proofs.nesting.sweep.Given as goal

-- the rows that are left decide
abbrev pub invariant-loop-row : goal.invariant-loop-row
invariant-loop-row l = sweeps l.around.items (drop l.row-index l.fn.rows) ≡ sweeps [] l.fn.rows
