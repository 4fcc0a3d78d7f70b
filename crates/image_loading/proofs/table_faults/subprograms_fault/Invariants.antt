use Rattle.std.proofs.Common.{◌≡◌, drop}
use Rattle.image_loading.specs.FaultOrder.{first_of, sooner}
use Rattle.image_loading.specs.Loading.{each, behind_row, subprogram_faults}
use Rattle.image_loading.proofs.table_faults.subprograms_fault.Given as goal

-- what was found, or what is left has, is the first of all
abbrev pub invariant-loop-number : goal.invariant-loop-number
invariant-loop-number l = sooner l.fault (first_of (each (behind_row 13) (subprogram_faults l.fn.parts l.fn.ordered l.fn.code) l.number l.byte (drop l.number l.fn.subprograms))) ≡ first_of (each (behind_row 13) (subprogram_faults l.fn.parts l.fn.ordered l.fn.code) 0 l.fn.start l.fn.subprograms)
