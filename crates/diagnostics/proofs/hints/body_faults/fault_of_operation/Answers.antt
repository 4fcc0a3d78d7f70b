use Rattle.std.proofs.Common.{◌∙◌, map, not}
use Rattle.ada_tree.specs.ProgramTree.{body_item_tree, item_tree}
use Rattle.diagnostics.specs.hints.BodyFaults.{declares_operation_as, fault_of_declared, second_or}
use Rattle.diagnostics.proofs.hints.body_faults.fault_of_operation.Goals as goal

pub returns : goal.returns
returns c =
    let items = map item_tree c.args.items.now in
    let all = map body_item_tree c.args.all.now in
    let entry = c.is_entry_body-entry.ensures in
    let name = c.body_name-name.ensures in
    let other = c.declares_operation_as.ensures ∙ (λ j. declares_operation_as items all (not (entry j)) c.args.object.now (name j)) in
    let own = c.declares_operation_as-2.ensures ∙ (λ j. declares_operation_as items all (entry j) c.args.object.now (name j)) in
    let declared = c.fault_of_declared.ensures ∙ (λ j. fault_of_declared (other j) (own j)) in
    c.second_or.ensures ∙ (λ j. second_or (c.has_earlier_operation.ensures j) (declared j))
