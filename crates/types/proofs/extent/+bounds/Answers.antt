use Rattle.std.proofs.Common.{ap, ◌∙◌}
use Rattle.ada_tree.specs.ExpressionTree.{expr_tree}
use Rattle.types.specs.Bounds.{operation_bounds, static_number}
use Rattle.types.specs.Walking.{bounds_after}
use Rattle.types.proofs.Walks.{chain_found, conditional_found}
use Rattle.types.proofs.extent.+bounds.Goals as goal

pub bounds-returns-in-Chain : goal.bounds-returns-in-Chain
bounds-returns-in-Chain t c =
    let s = c.args.scope.now in
    let one =
    c.operation_bounds-first.ensures
    ∙ (λ j. operation_bounds ((c.deref-in-Chain.ensures j).operator) (static_number s (expr_tree ((c.deref-in-Chain-2.ensures j).value)))) in
    chain_found s (expr_tree c.args.e.now) c.in-Chain.second.value.operator (expr_tree c.in-Chain.field-0.value) (expr_tree c.in-Chain.second.value.value)
    c.in-Chain.more.items _ _ _ _
    (ap expr_tree c.in-Chain.is ∙ c.chains_by_parts.ensures c.in-Chain.field-0 c.in-Chain.second c.in-Chain.more)
    c.static_number-in-Chain.ensures one (c.bounds_after.ensures
    ∙ ap (λ l. bounds_after s c.operation_bounds-first.result l) c.deref-in-Chain-3.ensures.value) c.known_or-in-Chain.ensures

pub bounds-returns-in-Conditional : goal.bounds-returns-in-Conditional
bounds-returns-in-Conditional t c =
    conditional_found c.args.scope.now (expr_tree c.args.e.now) _ _ _ _ _ _ _ _ _
    (ap expr_tree c.in-Conditional.is ∙ c.conditional_by_parts.ensures c.in-Conditional.field-0 c.in-Conditional.field-1 c.in-Conditional.value
    c.in-Conditional.parts c.in-Conditional.else_value)
    (rw c.deref-in-Conditional.ensures at c.bounds-in-Conditional.ensures)
    (rw c.deref-in-Conditional-2.ensures.value at c.elsif_bounds-first.ensures)
    (rw c.deref-in-Conditional-3.ensures at c.bounds-in-Conditional-2.ensures)
    c.spanned.ensures
