use Rattle.std.proofs.Common.{map, take}
use Rattle.std.specs.List.{list_any}
use Rattle.ada_tree.specs.ProgramTree.{item_tree}
use Rattle.conformance.specs.Tables.{Declares, declares_unlike}
use Rattle.conformance.proofs.declared.Profiles.declare_items.Given as goal

abbrev pub invariant-loop-item : goal.invariant-loop-item
invariant-loop-item l = Declares l.fn.self.table.entries l.self.table.entries (λ k p. list_any (declares_unlike k p) (map item_tree (take l.item-index l.items)))
