use Rattle.std.proofs.Common.{◌≡◌, ◌++◌, drop, length}
use Rattle.ada_tree.specs.ProgramTree.{program_tree}
use Rattle.package_code.specs.Objects.{object_rows}
use Rattle.package_code.proofs.services.object_rows.Given as goal

abbrev pub invariant-loop-object : goal.invariant-loop-object
invariant-loop-object l =
    (l.rows.items ++ object_rows (program_tree l.accepted) l.object-index (drop l.object-index l.declared) ≡ object_rows (program_tree l.accepted) 0 l.declared)
    × (length l.rows.items ≡ l.object-index)
