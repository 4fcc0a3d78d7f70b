use Rattle.std.proofs.Common.{◌≡◌, take}
use Rattle.arrayvec.specs.ArrayVec.{array_vec_len}
use Rattle.protected.proofs.objects.copied.Given as goal

abbrev pub invariant-loop-priority : goal.invariant-loop-priority
invariant-loop-priority g l = (l.list.items ≡ take l.priority-index l.priorities) × (array_vec_len l.list ≡ l.priority-index)
