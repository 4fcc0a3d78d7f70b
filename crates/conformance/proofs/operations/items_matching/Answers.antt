use Rattle.std.proofs.Common.{◌+◌, map, drop, take, ap, sym, ◌∙◌, refl}
use Rattle.ada_tree.specs.ProgramTree.{body_item_tree, item_tree}
use Rattle.expr_rules.specs.Findings.{noted}
use Rattle.expr_rules.specs.Walks.{noted_walk_turn}
use Rattle.conformance.specs.MatchingRules.{item_matching, items_matching}
use Rattle.conformance.specs.Tables.{front_before, front_next, front_specified}
use Rattle.conformance.proofs.Fronts.{gone_on}
use Rattle.conformance.proofs.operations.items_matching.Goals as goal

pub loop-index-preserved : goal.loop-index-preserved
loop-index-preserved c =
    let specified = map item_tree c.args.specified.now in
    let all = c.items-items.result.now in
    let l = c.loop-index in
    let n = l.index in
    let x = c.index-items-index.result in
    let behind = map body_item_tree (drop (n + 1) c.args.bodies.now) in
    let left = items_matching specified (map body_item_tree (take (n + 1) all)) (map body_item_tree (drop (n + 1) all)) in
    let here = c.in_ok-item_matching.ensures
    ∙ ap (λ f. noted l.found (item_matching (front_specified f) (front_before f) behind (body_item_tree x))) l.invariant.1
    ∙ ap (λ b. noted l.found (item_matching specified (map body_item_tree (take n all)) (map body_item_tree (drop (n + 1) b)) (body_item_tree x)))
    (sym c.items-items.ensures) in (
      ap (λ f. noted f left) here
          ∙ noted_walk_turn body_item_tree (items_matching specified) (λ b y r. item_matching specified b r y) (λ b y r. refl)
          all n x l.found _ c.loop-index-test.true c.index-items-index.is l.invariant.0,
      c.in_ok-front-2.ensures ∙ ap front_next l.invariant.1 ∙ gone_on c.args.specified.now all n c.loop-index-test.true,
    )
