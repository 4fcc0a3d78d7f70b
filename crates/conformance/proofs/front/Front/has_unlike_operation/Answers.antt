use Rattle.std.proofs.Common.{ap, ◌∙◌, map, take}
use Rattle.ada_tree.specs.ProgramTree.{body_item_tree, item_tree, protected_item_tree}
use Rattle.conformance.specs.MatchingRules.{any_declared, has_unlike_operation}
use Rattle.conformance.specs.Tables.{body_profile, declared_at, front_before, front_specified, is_unlike}
use Rattle.conformance.proofs.Alike.{operations_unlike}
use Rattle.conformance.proofs.front.Front.has_unlike_operation.Goals as goal

pub returns : goal.returns
returns c =
    let k = c.of_operation_body.result in
    let object = c.args.object.now in
    let body = protected_item_tree c.args.body.now in
    let front = c.self.inside in
    c.is_unlike.ensures
    ∙ ap (is_unlike (declared_at front.profiles.table.entries k)) c.of_body.ensures
    ∙ c.self.invariant.1 k (body_profile body)
    ∙ operations_unlike k object body c.of_operation_body.ensures (map item_tree front.specified.now) (map body_item_tree (take front.count front.items.now))
    ∙ ap (λ f. any_declared (has_unlike_operation object body) (front_specified f) (front_before f)) c.self.view_is
