use Rattle.std.proofs.Common.{◌≡◌, suc, ◌+◌, ◌++◌, drop, refl, sym, ap, ◌∙◌, arith}
use Rattle.ada_tree.specs.ExpressionTree.{expr_tree, argument_tree, argument_trees, elsif_value_tree, elsif_value_trees, selector_tree, selector_trees}
use Rattle.types.specs.Standings.{select}
use Rattle.expr_rules.specs.Findings.{noted}
use Rattle.expr_rules.specs.NameRules.{slot_at}
use Rattle.expr_rules.specs.Typing.{own_of}
use Rattle.expr_rules.specs.ExpressionRules.{argument_faults, arguments_faults, beside, elsif_faults, faults_in, part_faults, selector_faults, selectors_faults}
use Rattle.expr_rules.specs.Judging.{joined, joined_faults, judged, judged_after, operands_faults}
use Rattle.expr_rules.specs.Walks.{noted_turn}
use Rattle.expr_rules.proofs.Chains.{binary_faults, chain_faults, judged_chain}
use Rattle.expr_rules.proofs.Loops.{conditional_faults, judged_turn}
use Rattle.expr_rules.proofs.walk.+expression.Goals as goal

pub judge-returns-in-Chain-clause-judged : goal.judge-returns-in-Chain-clause-judged
judge-returns-in-Chain-clause-judged t c =
    let s = c.args.scope.now in
    let first = expr_tree c.in-Chain.first.value in
    let operator = c.in-Chain.second.value.operator in
    let second = expr_tree c.in-Chain.second.value.value in
    let more = c.in-Chain.more.items in
    let left = c.judge-left.ensures.judged ∙ (λ j. judged s (expr_tree (c.deref-in-Chain-3.ensures j))) in
    let both = c.judge_operand-both.ensures.judged ∙ (λ j. joined s (left j) ((c.deref-in-Chain-4.ensures j).operator) (expr_tree ((c.deref-in-Chain-4.ensures j).value))) in
    let whole =
    ap (λ e. judged s (expr_tree e)) c.in-Chain.is
    ∙ ap (judged s) (c.chains_by_parts.ensures c.in-Chain.first c.in-Chain.second c.in-Chain.more)
    ∙ judged_chain s operator first second more in
    c.judge_operands.ensures.judged ∙ (λ j. judged_after s (both j) (c.deref-in-Chain-5.ensures.value j)) ∙ sym whole

pub judge-returns-in-Chain-clause-found : goal.judge-returns-in-Chain-clause-found
judge-returns-in-Chain-clause-found t c =
    let s = c.args.scope.now in
    let w = c.args.wanted in
    let found = c.args.found.now in
    let first = expr_tree c.in-Chain.first.value in
    let operator = c.in-Chain.second.value.operator in
    let second = expr_tree c.in-Chain.second.value.value in
    let more = c.in-Chain.more.items in
    let right = c.own_of.ensures ∙ ap (λ o. own_of s (expr_tree o.value)) c.deref-in-Chain-2.ensures in
    let inner = c.beside-beside.ensures ∙ (λ j. beside s ((c.deref-in-Chain.ensures j).operator) (right j)) in
    let left = c.judge-left.ensures.judged ∙ (λ j. judged s (expr_tree (c.deref-in-Chain-3.ensures j))) in
    let both = c.judge_operand-both.ensures.judged ∙ (λ j. joined s (left j) ((c.deref-in-Chain-4.ensures j).operator) (expr_tree ((c.deref-in-Chain-4.ensures j).value))) in
    let in_left = c.judge-left.ensures.found ∙ (λ j. noted found (faults_in s (inner j) (expr_tree (c.deref-in-Chain-3.ensures j)))) in
    let in_both =
    c.judge_operand-both.ensures.found
    ∙ (λ j. noted (in_left j) (joined_faults s (left j) ((c.deref-in-Chain-4.ensures j).operator) (expr_tree ((c.deref-in-Chain-4.ensures j).value))))
    ∙ binary_faults s w operator first second found in
    let whole =
    ap (λ e. noted found (faults_in s w (expr_tree e))) c.in-Chain.is
    ∙ ap (λ e. noted found (faults_in s w e)) (c.chains_by_parts.ensures c.in-Chain.first c.in-Chain.second c.in-Chain.more)
    ∙ chain_faults s w operator first second more found in
    c.judge_operands.ensures.found ∙ (λ j. noted (in_both j) (operands_faults s (both j) (c.deref-in-Chain-5.ensures.value j))) ∙ sym whole

pub judge-returns-in-Conditional-clause-found : goal.judge-returns-in-Conditional-clause-found
judge-returns-in-Conditional-clause-found t c =
    conditional_faults c.args.scope.now c.args.wanted (expr_tree c.args.e.now) _ _ _ _ _ _ c.args.found.now _ _ _ _
    (ap expr_tree c.in-Conditional.is ∙ c.conditional_by_parts.ensures c.in-Conditional.place c.in-Conditional.condition c.in-Conditional.value c.in-Conditional.parts c.in-Conditional.else_value)
    (rw c.deref-in-Conditional-3.ensures at (rw c.deref-in-Conditional-2.ensures.value at (rw c.deref-in-Conditional.ensures at c.conditional_wanted-inner.ensures)))
    (rw c.deref-in-Conditional-4.ensures at c.faults_of.ensures)
    (rw c.deref-in-Conditional-5.ensures at c.faults_of-in-Conditional.ensures)
    (rw c.deref-in-Conditional-6.ensures.value at c.elsif_faults.ensures)
    (rw c.deref-in-Conditional-7.ensures at c.faults_of-in-Conditional-2.ensures)

pub judge_operands-loop-operand-preserved : goal.judge_operands-loop-operand-preserved
judge_operands-loop-operand-preserved t c =
    let l = c.loop-operand in
    judged_turn c.args.scope.now c.args.operands.now l.operand-index c.operand-item.result l.left c.judge_operand-left.result l.found c.judge_operand-left.new.found _ _
    c.loop-operand-test.true c.operand-item.is l.invariant c.judge_operand-left.ensures.judged c.judge_operand-left.ensures.found

pub selectors_faults-loop-selector-preserved : goal.selectors_faults-loop-selector-preserved
selectors_faults-loop-selector-preserved t c =
    let s = c.args.scope.now in
    let place = c.args.place in
    let l = c.loop-selector in
    let x = c.selector-item.result in
    rw c.selector_faults.ensures (rw c.select-standing.ensures
    (noted_turn (λ xs. selectors_faults s place l.standing (selector_trees xs)) c.args.selectors.now l.selector-index x l.found (selector_faults s place l.standing (selector_tree x))
    (selectors_faults s place (select s l.standing (selector_tree x)) (selector_trees (drop (l.selector-index + 1) c.args.selectors.now))) _
    c.loop-selector-test.true c.selector-item.is refl l.invariant))

pub elsif_faults-loop-part-preserved : goal.elsif_faults-loop-part-preserved
elsif_faults-loop-part-preserved t c =
    let s = c.args.scope.now in
    let w = c.args.wanted in
    let l = c.loop-part in
    let x = c.part-item.result in
    rw c.part_faults.ensures
    (noted_turn (λ xs. elsif_faults s w (elsif_value_trees xs)) c.args.parts.now l.part-index x l.found (part_faults s w (elsif_value_tree x).0 (elsif_value_tree x).1)
    (elsif_faults s w (elsif_value_trees (drop (l.part-index + 1) c.args.parts.now))) _
    c.loop-part-test.true c.part-item.is refl l.invariant)

pub arguments_faults-loop-index-preserved : goal.arguments_faults-loop-index-preserved
arguments_faults-loop-index-preserved t c =
    let s = c.args.scope.now in
    let w = c.args.standing in
    let l = c.loop-index in
    let n = l.index in
    let x = c.index-arguments-index.result in
    let first = argument_faults s (slot_at s w n) (argument_tree x) in
    let rest = argument_trees (drop (n + 1) c.args.arguments.now) in
    let e : suc n ≡ n + 1 = omega arith in
    rw c.argument_faults.ensures (rw c.slot_at-slot.ensures
    (noted_turn (λ xs. arguments_faults s w n (argument_trees xs)) c.args.arguments.now n x l.found first (arguments_faults s w (n + 1) rest) _
    c.loop-index-test.true c.index-arguments-index.is (ap (λ k. first ++ arguments_faults s w k rest) e) l.invariant))
