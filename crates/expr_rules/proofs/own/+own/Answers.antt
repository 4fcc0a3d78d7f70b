use Rattle.std.proofs.Common.{sym, ap, ◌∙◌}
use Rattle.ada_tree.specs.ExpressionTree.{Binary, expr_tree}
use Rattle.expr_rules.specs.Typing.{binary_own, own_of}
use Rattle.expr_rules.specs.Judging.{own_after}
use Rattle.expr_rules.proofs.Chains.{own_chain}
use Rattle.expr_rules.proofs.Loops.{conditional_own}
use Rattle.expr_rules.proofs.own.+own.Goals as goal

pub own_of-returns-in-Chain : goal.own_of-returns-in-Chain
own_of-returns-in-Chain t c =
    let s = c.args.scope.now in
    let first = expr_tree c.in-Chain.first.value in
    let operator = c.in-Chain.second.value.operator in
    let second = expr_tree c.in-Chain.second.value.value in
    let left = c.own_of-left.ensures ∙ ap (λ e. own_of s (expr_tree e)) c.deref-in-Chain.ensures in
    let right = c.own_of-right.ensures ∙ ap (λ o. own_of s (expr_tree o.value)) c.deref-in-Chain-2.ensures in
    let both = c.binary_own.ensures ∙ (λ j. binary_own s ((c.deref-in-Chain-3.ensures j).operator) (left j) (right j)) in
    let whole =
    ap (λ e. own_of s (expr_tree e)) c.in-Chain.is
    ∙ ap (own_of s) (c.chains_by_parts.ensures c.in-Chain.first c.in-Chain.second c.in-Chain.more)
    ∙ own_chain s (Binary operator first second) c.in-Chain.more.items in
    c.own_after.ensures ∙ (λ j. own_after s (both j) (c.deref-in-Chain-4.ensures.value j)) ∙ sym whole

pub own_of-returns-in-Conditional : goal.own_of-returns-in-Conditional
own_of-returns-in-Conditional t c =
    c.join.ensures
    ∙ conditional_own c.args.scope.now (expr_tree c.args.e.now) _ _ _ _ _ _ _ _ (ap expr_tree c.in-Conditional.is ∙ c.conditional_by_parts.ensures c.in-Conditional.field-0 c.in-Conditional.field-1 c.in-Conditional.value c.in-Conditional.parts c.in-Conditional.else_value)
    (rw c.deref-in-Conditional.ensures at c.own_of-first.ensures)
    (rw c.deref-in-Conditional-2.ensures.value at c.elsif_own_of-own.ensures)
    (rw c.deref-in-Conditional-3.ensures at c.own_of-in-Conditional.ensures)
