use Rattle.std.proofs.Common.{◌≡◌, suc, ◌+◌, ◌++◌, drop, refl, sym, ap, ◌∙◌, arith}
use Rattle.ada_tree.specs.ExpressionTree.{argument_tree, argument_trees, elsif_value_tree, elsif_value_trees, expr_tree, selector_tree, selector_trees}
use Rattle.types.specs.Standings.{select}
use Rattle.expr_rules.specs.ExpressionRules.{beside, conditional_wanted}
use Rattle.expr_rules.specs.NameRules.{slot_at}
use Rattle.expr_rules.specs.Typing.{own_of}
use Rattle.mismatches.specs.Conflicts.{noted}
use Rattle.mismatches.specs.ExpressionMismatches.{argument_mismatches, arguments_mismatches, elsifs_mismatches, mismatches_in, part_mismatches, selector_mismatches, selectors_mismatches}
use Rattle.mismatches.specs.Operating.{joined, joined_mismatches, left_operand, operands_mismatches}
use Rattle.mismatches.proofs.Noted.{noted_turn}
use Rattle.mismatches.proofs.Chains.{binary_mismatches, chain_mismatches, conditional_mismatches, operands_turn}
use Rattle.mismatches.proofs.expressions.+expression.Goals as goal

pub inside-returns-in-Chain : goal.inside-returns-in-Chain
inside-returns-in-Chain t c =
    let s = c.args.scope.now in
    let search = c.args.search.now in
    let first = expr_tree c.in-Chain.first.value in
    let operator = c.in-Chain.second.value.operator in
    let second = expr_tree c.in-Chain.second.value.value in
    let more = c.in-Chain.more.items in
    let wanted = c.before-in-Chain.ensures ∙ (λ j. beside s ((c.deref-in-Chain.ensures j).operator) (own_of s (expr_tree ((c.deref-in-Chain.ensures j).value)))) in
    let in_left = c.inside-in-Chain.ensures ∙ (λ j. noted search (mismatches_in s (wanted j) (expr_tree (c.deref-in-Chain-2.ensures j)))) in
    let left = c.left_operand.ensures ∙ (λ j. left_operand s (expr_tree (c.deref-in-Chain-3.ensures j))) in
    let both = c.operand_mismatches-left.ensures.joined ∙ (λ j. joined s (left j) ((c.deref-in-Chain-4.ensures j).operator) (expr_tree ((c.deref-in-Chain-4.ensures j).value))) in
    let in_both =
    c.operand_mismatches-left.ensures.search
    ∙ (λ j. noted (in_left j) (joined_mismatches s (left j) ((c.deref-in-Chain-4.ensures j).operator) (expr_tree ((c.deref-in-Chain-4.ensures j).value))))
    ∙ binary_mismatches s c.args.wanted operator first second search in
    let whole =
    ap (λ e. noted search (mismatches_in s c.args.wanted (expr_tree e))) c.in-Chain.is
    ∙ ap (λ e. noted search (mismatches_in s c.args.wanted e)) (c.chains_by_parts.ensures c.in-Chain.first c.in-Chain.second c.in-Chain.more)
    ∙ chain_mismatches s c.args.wanted operator first second more search in
    c.operands_mismatches.ensures ∙ (λ j. noted (in_both j) (operands_mismatches s (both j) (c.deref-in-Chain-5.ensures.value j))) ∙ sym whole

pub operands_mismatches-loop-operand-preserved : goal.operands_mismatches-loop-operand-preserved
operands_mismatches-loop-operand-preserved t c =
    let l = c.loop-operand in
    operands_turn c.args.scope.now c.args.operands.now l.operand-index c.operand-item.result l.left c.operand_mismatches-left.result l.search
    c.operand_mismatches-left.new.search _
    c.loop-operand-test.true c.operand-item.is l.invariant c.operand_mismatches-left.ensures.joined c.operand_mismatches-left.ensures.search

pub selectors_mismatches-loop-selector-preserved : goal.selectors_mismatches-loop-selector-preserved
selectors_mismatches-loop-selector-preserved t c =
    let s = c.args.scope.now in
    let l = c.loop-selector in
    let x = c.selector-item.result in
    rw c.selector_mismatches.ensures (rw c.select-standing.ensures
    (noted_turn (λ xs. selectors_mismatches s l.standing (selector_trees xs)) c.args.selectors.now l.selector-index x l.search (selector_mismatches s l.standing (selector_tree x))
    (selectors_mismatches s (select s l.standing (selector_tree x)) (selector_trees (drop (l.selector-index + 1) c.args.selectors.now))) _
    c.loop-selector-test.true c.selector-item.is refl l.invariant))

pub elsifs_mismatches-loop-part-preserved : goal.elsifs_mismatches-loop-part-preserved
elsifs_mismatches-loop-part-preserved t c =
    let s = c.args.scope.now in
    let w = c.args.wanted in
    let l = c.loop-part in
    let x = c.part-item.result in
    rw c.part_mismatches.ensures
    (noted_turn (λ xs. elsifs_mismatches s w (elsif_value_trees xs)) c.args.parts.now l.part-index x l.search (part_mismatches s w (elsif_value_tree x).0 (elsif_value_tree x).1)
    (elsifs_mismatches s w (elsif_value_trees (drop (l.part-index + 1) c.args.parts.now))) _
    c.loop-part-test.true c.part-item.is refl l.invariant)

pub arguments_mismatches-loop-index-preserved : goal.arguments_mismatches-loop-index-preserved
arguments_mismatches-loop-index-preserved t c =
    let s = c.args.scope.now in
    let w = c.args.standing in
    let l = c.loop-index in
    let n = l.index in
    let x = c.index-arguments-index.result in
    let first = argument_mismatches s (slot_at s w n) (argument_tree x) in
    let rest = argument_trees (drop (n + 1) c.args.arguments.now) in
    let e : suc n ≡ n + 1 = omega arith in
    rw c.argument_mismatches.ensures (rw c.slot_at-slot.ensures
    (noted_turn (λ xs. arguments_mismatches s w n (argument_trees xs)) c.args.arguments.now n x l.search first (arguments_mismatches s w (n + 1) rest) _
    c.loop-index-test.true c.index-arguments-index.is (ap (λ k. first ++ arguments_mismatches s w k rest) e) l.invariant))

pub inside-returns-in-Conditional : goal.inside-returns-in-Conditional
inside-returns-in-Conditional t c =
    conditional_mismatches c.args.scope.now c.args.wanted c.conditional_wanted-inner.result (expr_tree c.args.e.now) _ _ _ _ _ c.args.search.now _ _ _ _
    (ap expr_tree c.in-Conditional.is
    ∙ c.conditional_by_parts.ensures c.in-Conditional.field-0 c.in-Conditional.condition c.in-Conditional.value c.in-Conditional.parts c.in-Conditional.else_value)
    (c.conditional_wanted-inner.ensures
    ∙ (λ j. conditional_wanted c.args.scope.now c.args.wanted (expr_tree (c.deref-in-Conditional.ensures j))
    (elsif_value_trees (c.deref-in-Conditional-2.ensures.value j)) (expr_tree (c.deref-in-Conditional-3.ensures j))))
    (rw c.deref-in-Conditional-4.ensures at c.mismatches_of.ensures)
    (rw c.deref-in-Conditional-5.ensures at c.mismatches_of-in-Conditional.ensures)
    (rw c.deref-in-Conditional-6.ensures.value at c.elsifs_mismatches.ensures)
    (rw c.deref-in-Conditional-7.ensures at c.mismatches_of-in-Conditional-2.ensures)
