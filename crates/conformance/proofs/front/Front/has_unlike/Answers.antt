use Rattle.std.proofs.Common.{ap, ◌∙◌, map, take}
use Rattle.ada_tree.specs.StatementTree.{subprogram_tree}
use Rattle.ada_tree.specs.ProgramTree.{body_item_tree, item_tree}
use Rattle.conformance.specs.MatchingRules.{any_declared, is_unlike_subprogram}
use Rattle.conformance.specs.Tables.{declared_at, front_before, front_specified, is_unlike, subprogram_profile}
use Rattle.conformance.proofs.Alike.{unlike_found}
use Rattle.conformance.proofs.front.Front.has_unlike.Goals as goal

pub returns : goal.returns
returns c =
    let k = c.of_body.result in
    let body = subprogram_tree c.args.body.now in
    let front = c.self.inside in
    c.is_unlike.ensures
    ∙ ap (is_unlike (declared_at front.profiles.table.entries k)) c.of_subprogram.ensures
    ∙ c.self.invariant.1 k (subprogram_profile body)
    ∙ unlike_found k body c.of_body.ensures (map item_tree front.specified.now) (map body_item_tree (take front.count front.items.now))
    ∙ ap (λ f. any_declared (is_unlike_subprogram body) (front_specified f) (front_before f)) c.self.view_is
