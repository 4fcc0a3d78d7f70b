use Rattle.std.proofs.Common.{map, ◌∙◌}
use Rattle.ada_tree.specs.ProgramTree.{protected_item_tree}
use Rattle.types.specs.Entities.{operation_value}
use Rattle.unit_rules.proofs.Objects.{object_left}
use Rattle.unit_rules.proofs.protected.object_body_faults.Goals as goal

pub returns-clause-scope : goal.returns-clause-scope
returns-clause-scope c =
    c.leave_object.ensures
    ∙ object_left c.names_are_added.ensures c.object_bodies_end.ensures c.args.scope.now c.enter_object.new.scope c.protected_items_faults.new.scope c.args.number
    c.len-len.result
    (map protected_item_tree c.args.items.now)
    (map operation_value c.in_ok-operations.operations)
    c.in_ok-operations.ensures.scope
    c.in_ok-protected_items_faults.ensures.scope
    c.len-len.ensures.value
    c.in_ok-operations.ensures.operations
