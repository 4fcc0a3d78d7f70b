use Rattle.std.proofs.Common.{◌≡◌, ◌+◌, length, map, take}
use Rattle.base.specs.declared.limits.TheConstants.{TASKS}
use Rattle.protected.proofs.objects.restore_rows.Given as goal

abbrev pub invariant-loop-row : goal.invariant-loop-row
invariant-loop-row l = (take l.row (map (λ r. r.items) l.rows) ≡ take l.row (map (λ r. r.items) l.others)) × (length l.rows ≡ TASKS + 1)
