use Rattle.std.proofs.Common.{◌≡◌, drop, map}
use Rattle.ada_tree.specs.ProgramTree.{protected_item_tree}
use Rattle.diagnostics.specs.hints.EndNames.{operation_end}
use Rattle.diagnostics.specs.hints.Found.{first_found}
use Rattle.diagnostics.proofs.hints.end_names.operation_end_among.Given as goal

-- what is left decides
abbrev pub invariant-loop-item : goal.invariant-loop-item
invariant-loop-item l = first_found (operation_end l.fn.place) (map protected_item_tree (drop l.item-index l.fn.items)) ≡ first_found (operation_end l.fn.place) (map protected_item_tree l.fn.items)
