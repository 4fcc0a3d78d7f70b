use Rattle.std.proofs.Common.{◌≡◌, drop}
use Rattle.image_loading.specs.FaultOrder.{first_of, sooner}
use Rattle.image_loading.specs.Loading.{behind_row, each, instruction_faults}
use Rattle.image_loading.proofs.code_faults.operands_fault.Given as goal

-- what was found, or what is left has, is the first of all
abbrev pub invariant-loop-place : goal.invariant-loop-place
invariant-loop-place l = sooner l.fault (first_of (each (behind_row 13) instruction_faults l.place l.byte (drop l.place l.fn.instructions))) ≡ first_of (each (behind_row 13) instruction_faults 0 l.fn.start l.fn.instructions)
