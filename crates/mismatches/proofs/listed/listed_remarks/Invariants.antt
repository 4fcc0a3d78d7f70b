use Rattle.std.proofs.Common.{◌≡◌, ◌++◌, drop}
use Rattle.ada_tree.specs.ProgramTree.{package_tree}
use Rattle.mismatches.specs.Listed.{listed_remarks}
use Rattle.mismatches.proofs.listed.listed_remarks.Given as goal

-- what is left, after what stands, is the whole
abbrev pub invariant-loop-mismatch : goal.invariant-loop-mismatch
invariant-loop-mismatch l =
    let listed = listed_remarks l.fn.scope (package_tree l.fn.package_) in
    l.list.items ++ listed (drop l.mismatch-index l.fn.mismatches) ≡ listed l.fn.mismatches
