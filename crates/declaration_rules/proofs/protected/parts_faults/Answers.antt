use Rattle.std.proofs.Common.{◌≡◌, ◌∙◌, ◌+◌, List, ℕ, ap, subst, sym, refl, drop, map, take}
use Rattle.ada_tree.specs.StatementTree.{ProtectedComponentTree, protected_component_tree}
use Rattle.types.specs.Seen.{AreNames}
use Rattle.types.proofs.Seeing.{names_next}
use Rattle.expr_rules.specs.Findings.{noted}
use Rattle.expr_rules.specs.Walks.{noted_walk_turn}
use Rattle.declaration_rules.specs.ProtectedRules.{like_part_faults, part_faults, parts_faults}
use Rattle.declaration_rules.proofs.protected.parts_faults.Goals as goal

name_of : ProtectedComponentTree → List ℕ
name_of p = p.name.name

pub loop-component-preserved : goal.loop-component-preserved
unfolding name_of
loop-component-preserved c =
    let s = c.args.scope.now in
    let own = c.args.own.now in
    let all = c.args.components.now in
    let l = c.loop-component in
    let n = l.component-index in
    let x = c.component-item.result in
    let p = protected_component_tree x in
    let second = c.in_ok-is_second.ensures.before ∙ l.invariant.1 p.name.name in (
      λ operations are. ap (λ g. noted g (parts_faults s own operations (map protected_component_tree (take (n + 1) all)) (map protected_component_tree (drop (n + 1) all))))
          (c.part_faults.ensures ∙ (λ j. noted l.found (like_part_faults s own (are p.name.name j) (second j) p)))
          ∙ noted_walk_turn protected_component_tree (parts_faults s own operations) (λ b y r. part_faults s own operations b y) (λ b y r. refl) all n x l.found _ c.loop-component-test.true c.component-item.is (l.invariant.0 operations are),
      subst (AreNames name_of (map protected_component_tree (take (n + 1) all))) (sym c.in_ok-is_second.ensures.seen)
          (names_next protected_component_tree name_of all n x l.names c.loop-component-test.true c.component-item.is l.invariant.1),
    )
