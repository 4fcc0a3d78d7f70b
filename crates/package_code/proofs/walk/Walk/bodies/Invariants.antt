use Rattle.std.proofs.Common.{◌≡◌, ◌+◌, ◌≤◌, length}
use Rattle.base.specs.declared.limits.TheConstants.{ROWS}
use Rattle.ada_tree.specs.ProgramTree.{program_tree}
use Rattle.package_code.specs.Walking.{IsAsTold, IsWalked}
use Rattle.package_code.proofs.walk.Walk.bodies.Given as goal

abbrev pub invariant-loop-item : goal.invariant-loop-item
invariant-loop-item l =
    IsWalked (program_tree l.accepted) l.directory l.self
    × (IsAsTold (program_tree l.accepted) l.self
    × ((l.self.place ≡ l.fn.self.place + l.item-index) × (length l.self.draft.rows.items ≤ ROWS)))
