use Rattle.std.proofs.Common.{◌≡◌, drop}
use Rattle.image_loading.specs.FaultOrder.{first_of, sooner}
use Rattle.image_loading.specs.Loading.{attached_faults}
use Rattle.image_loading.proofs.table_faults.attached_fault.Given as goal

-- what was found, or what is left has, is the first of all
abbrev pub invariant-loop-a : goal.invariant-loop-a
invariant-loop-a l =
    sooner l.fault (first_of (attached_faults l.fn.parts l.last l.byte (drop l.a-index l.fn.attachments)))
    ≡ first_of (attached_faults l.fn.parts 0 l.fn.start l.fn.attachments)
