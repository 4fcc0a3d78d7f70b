use Rattle.std.proofs.Common.{◌≡◌, ◌∙◌, ◌+◌, ap, subst, sym, refl, drop, map, take}
use Rattle.ada_tree.specs.StatementTree.{operation_tree}
use Rattle.types.specs.Seen.{AreNames, is_seen, seen_with}
use Rattle.types.proofs.Seeing.{names_next}
use Rattle.expr_rules.specs.Findings.{noted}
use Rattle.expr_rules.specs.Walks.{noted_walk_turn}
use Rattle.declaration_rules.specs.ProtectedRules.{like_operation_faults, operation_bytes, operation_faults, operations_faults}
use Rattle.declaration_rules.proofs.protected.operations_faults.Goals as goal

pub loop-operation-preserved : goal.loop-operation-preserved
loop-operation-preserved c =
    let s = c.args.scope.now in
    let own = c.args.own.now in
    let all = c.args.operations.now in
    let l = c.loop-operation in
    let n = l.operation-index in
    let x = c.operation-item.result in
    let o = operation_tree x in
    let name = ap (λ i. i.name) c.operation_name.ensures in
    let second = c.in_ok-is_second.ensures.before ∙ ap (is_seen l.names) name ∙ l.invariant.1 (operation_bytes o) in (
      ap (λ g. noted g (operations_faults s own (map operation_tree (take (n + 1) all)) (map operation_tree (drop (n + 1) all))))
          (c.in_ok-operation_faults.ensures ∙ ap (λ b. noted l.found (like_operation_faults s own b o)) second)
          ∙ noted_walk_turn operation_tree (operations_faults s own) (λ b y r. operation_faults s own b y) (λ b y r. refl) all n x l.found _ c.loop-operation-test.true c.operation-item.is l.invariant.0,
      subst (AreNames operation_bytes (map operation_tree (take (n + 1) all))) (sym (c.in_ok-is_second.ensures.seen ∙ ap (seen_with l.names) name))
          (names_next operation_tree operation_bytes all n x l.names c.loop-operation-test.true c.operation-item.is l.invariant.1),
    )
