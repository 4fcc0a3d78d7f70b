use Rattle.std.proofs.Common.{map, take}
use Rattle.std.specs.List.{list_any}
use Rattle.ada_tree.specs.ProgramTree.{protected_item_tree}
use Rattle.conformance.specs.Tables.{PutsPlace, has_operation_key}
use Rattle.conformance.proofs.places.Places.put_operations.Given as goal

abbrev pub invariant-loop-body : goal.invariant-loop-body
invariant-loop-body l =
    PutsPlace l.fn.self.table.entries l.self.table.entries (λ k. list_any (has_operation_key k l.object) (map protected_item_tree (take l.body-index l.bodies))) l.place
