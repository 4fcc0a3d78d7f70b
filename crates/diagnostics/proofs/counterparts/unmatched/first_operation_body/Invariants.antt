use Rattle.std.proofs.Common.{◌≡◌, drop, map}
use Rattle.ada_tree.specs.ProgramTree.{protected_item_tree}
use Rattle.diagnostics.specs.counterparts.Unmatched.{first_operation_body}
use Rattle.diagnostics.proofs.counterparts.unmatched.first_operation_body.Given as goal

-- what is left decides
abbrev pub invariant-loop-item : goal.invariant-loop-item
invariant-loop-item l =
    first_operation_body l.fn.name l.fn.place (map protected_item_tree (drop l.item-index l.fn.items))
    ≡ first_operation_body l.fn.name l.fn.place (map protected_item_tree l.fn.items)
