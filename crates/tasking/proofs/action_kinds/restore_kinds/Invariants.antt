use Rattle.std.proofs.Common.{◌≡◌, ◌+◌, length, map, take}
use Rattle.base.specs.declared.limits.TheConstants.{TASKS}
use Rattle.tasking.proofs.action_kinds.restore_kinds.Given as goal

abbrev pub invariant-loop-row : goal.invariant-loop-row
invariant-loop-row l = (take l.row (map (λ r. r.items) l.kinds) ≡ take l.row (map (λ r. r.items) l.others)) × (length l.kinds ≡ TASKS + 1)
