use Rattle.std.proofs.Common.{◌≡◌, drop}
use Rattle.mismatches.specs.Listed.{remark_in}
use Rattle.mismatches.proofs.listed.Remarks.at.Given as goal

-- what is left decides
abbrev pub invariant-loop-placed : goal.invariant-loop-placed
invariant-loop-placed l = remark_in (drop l.placed-index l.fn.self) l.fn.number l.fn.place ≡ remark_in l.fn.self l.fn.number l.fn.place
