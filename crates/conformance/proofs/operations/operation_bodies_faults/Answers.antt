use Rattle.std.proofs.Common.{◌+◌, map, take, drop, ap, ◌∙◌, refl}
use Rattle.ada_tree.specs.ProgramTree.{protected_item_tree}
use Rattle.expr_rules.specs.Findings.{noted}
use Rattle.expr_rules.specs.Walks.{noted_walk_turn}
use Rattle.conformance.specs.MatchingRules.{operation_bodies_faults, operation_body_rule}
use Rattle.conformance.specs.Tables.{front_before, front_specified, known_operation_rule, has_operation_key, is_same_key}
use Rattle.conformance.proofs.Tabled.{own_operation, second_found, seen_next, sees_as}
use Rattle.conformance.proofs.operations.operation_bodies_faults.Goals as goal

pub loop-body-preserved : goal.loop-body-preserved
loop-body-preserved c =
    let specified = front_specified c.args.front.now in
    let before = front_before c.args.front.now in
    let own = c.args.object.now in
    let all = c.args.bodies.now in
    let l = c.loop-body in
    let n = l.body-index in
    let x = c.body-item.result in
    let i = protected_item_tree x in
    let key = c.of_operation_body.result in
    let earlier = map protected_item_tree (take n all) in
    let left = operation_bodies_faults specified before own (map protected_item_tree (take (n + 1) all)) (map protected_item_tree (drop (n + 1) all)) in
    let second = c.in_ok-is_second.ensures.before ∙ l.invariant.1 key ∙ second_found key own i c.of_operation_body.ensures earlier in
    let here = c.operation_body_rule.ensures ∙ ap (λ b. noted l.found (known_operation_rule specified before own b i)) second in (
      ap (λ f. noted f left) here
          ∙ noted_walk_turn protected_item_tree (operation_bodies_faults specified before own) (λ b y r. operation_body_rule specified before own b y) (λ b y r. refl)
          all n x l.found _ c.loop-body-test.true c.body-item.is l.invariant.0,
      seen_next protected_item_tree (λ k y. has_operation_key k own y) all n x l.seen.set.keys c.see.new.self.set.keys c.loop-body-test.true c.body-item.is l.invariant.1
          (sees_as l.seen.set.keys c.see.new.self.set.keys (is_same_key key) (λ k. has_operation_key k own i) (own_operation key own i c.of_operation_body.ensures)
          c.in_ok-is_second.ensures.seen),
    )
