use Rattle.std.proofs.Common.{sym, ap, ◌∙◌}
use Rattle.ada_tree.specs.ExpressionTree.{expr_tree}
use Rattle.mismatches.specs.Chaining.{operands_obstacle}
use Rattle.mismatches.specs.StaticMismatches.{obstacle_in, or_obstacle}
use Rattle.mismatches.proofs.Chains.{chain_obstacle}
use Rattle.mismatches.proofs.statics.+obstacle.Goals as goal

pub obstacle_in-returns-in-Chain : goal.obstacle_in-returns-in-Chain
obstacle_in-returns-in-Chain t c =
    let s = c.args.scope.now in
    let first = expr_tree c.in-Chain.first.value in
    let operator = c.in-Chain.second.value.operator in
    let second = expr_tree c.in-Chain.second.value.value in
    let left = c.obstacle_in-left.ensures ∙ ap (λ e. obstacle_in s (expr_tree e)) c.deref-in-Chain.ensures in
    let right = c.obstacle_in-right.ensures ∙ ap (λ o. obstacle_in s (expr_tree o.value)) c.deref-in-Chain-2.ensures in
    let both = c.or_obstacle.ensures ∙ (λ j. or_obstacle (left j) (right j)) in
    let whole =
    ap (λ e. obstacle_in s (expr_tree e)) c.in-Chain.is
    ∙ ap (obstacle_in s) (c.chains_by_parts.ensures c.in-Chain.first c.in-Chain.second c.in-Chain.more)
    ∙ chain_obstacle s operator first second c.in-Chain.more.items in
    c.operands_obstacle.ensures ∙ (λ j. operands_obstacle s (both j) (c.deref-in-Chain-3.ensures.value j)) ∙ sym whole
