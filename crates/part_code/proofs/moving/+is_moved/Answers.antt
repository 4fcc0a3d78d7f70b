use Rattle.std.proofs.Common.{◌≡◌, true, false, ap, sym, ◌∙◌}
use Rattle.ada_tree.specs.ExpressionTree.{elsif_value_trees, expr_tree}
use Rattle.part_code.specs.Moving.{are_moved, is_moved}
use Rattle.part_code.proofs.Moves.{all_true, chain_unmoved, one_false}
use Rattle.part_code.proofs.moving.+is_moved.Goals as goal

pub is_moved-returns-in-Chain : goal.is_moved-returns-in-Chain
is_moved-returns-in-Chain t c =
    let chain = c.in-Chain in
    let operand = chain.field-1.value in
    let v = c.args.visible.now in
    sym
    (ap (λ e. is_moved v (expr_tree e)) chain.is
    ∙ ap (is_moved v) (c.chains_by_parts.ensures chain.field-0 chain.field-1 chain.field-2)
    ∙ chain_unmoved v chain.field-2.items operand.operator (expr_tree chain.field-0.value) (expr_tree operand.value))

pub is_moved-returns-then-are_moved : goal.is_moved-returns-then-are_moved
is_moved-returns-then-are_moved t c =
    let v = c.args.visible.now in
    let tree = ap expr_tree c.in-Conditional.is ∙ c.conditional_by_parts.ensures c.in-Conditional.field-0 c.in-Conditional.field-1 c.in-Conditional.value
    c.in-Conditional.elsifs c.in-Conditional.last in
    let first : is_moved v (expr_tree c.in-Conditional.value.value) ≡ true =
    sym (c.is_moved-in-Conditional.ensures ∙ ap (λ e. is_moved v (expr_tree e)) c.deref-in-Conditional.ensures) ∙ c.if-is_moved.true in
    let others : are_moved v (elsif_value_trees c.in-Conditional.elsifs.items) ≡ true =
    sym (c.are_moved.ensures ∙ ap (λ l. are_moved v (elsif_value_trees l)) c.deref-then-is_moved.ensures.value) ∙ c.if-are_moved.true in
    c.is_moved-then-are_moved.ensures ∙ ap (λ e. is_moved v (expr_tree e)) c.deref-then-are_moved.ensures
    ∙ sym (ap (is_moved v) tree ∙ all_true (is_moved v (expr_tree c.in-Conditional.value.value)) (are_moved v (elsif_value_trees c.in-Conditional.elsifs.items))
    (is_moved v (expr_tree c.in-Conditional.last.value)) first others)

pub is_moved-returns-else-are_moved : goal.is_moved-returns-else-are_moved
is_moved-returns-else-are_moved t c =
    let v = c.args.visible.now in
    let tree = ap expr_tree c.in-Conditional.is ∙ c.conditional_by_parts.ensures c.in-Conditional.field-0 c.in-Conditional.field-1 c.in-Conditional.value
    c.in-Conditional.elsifs c.in-Conditional.last in
    let others : are_moved v (elsif_value_trees c.in-Conditional.elsifs.items) ≡ false =
    sym (c.are_moved.ensures ∙ ap (λ l. are_moved v (elsif_value_trees l)) c.deref-then-is_moved.ensures.value) ∙ c.if-are_moved.false in
    c.if-are_moved.false
    ∙ sym (ap (is_moved v) tree ∙ one_false (is_moved v (expr_tree c.in-Conditional.value.value))
    (are_moved v (elsif_value_trees c.in-Conditional.elsifs.items))
    (is_moved v (expr_tree c.in-Conditional.last.value)) others)
