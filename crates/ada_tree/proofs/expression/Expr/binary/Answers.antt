use Rattle.std.proofs.Common.{refl, sym, ap, ◌∙◌}
use Rattle.ada_tree.specs.ExpressionTree.{Binary, chain_tree, expr_tree}
use Rattle.ada_tree.proofs.Rows.{chain_more, chained_tree}
use Rattle.ada_tree.proofs.expression.Expr.binary.Goals as goal

pub returns-in_ok-push-in-Chain : goal.returns-in_ok-push-in-Chain
returns-in_ok-push-in-Chain c =
    let first = c.in-Chain.first in
    let second = c.in-Chain.second in
    let more = c.in-Chain.more in
    chained_tree first second c.push.new.self
    ∙ ap (chain_tree (Binary second.value.operator (expr_tree first.value) (expr_tree second.value.value))) c.in_ok-push-in-Chain.ensures.items
    ∙ chain_more _ more.items _
    ∙ ap (λ e. Binary c.args.operator e (expr_tree c.args.right)) (sym (ap expr_tree c.in-Chain.is ∙ chained_tree first second more))

pub returns-in_ok-second-in_default : goal.returns-in_ok-second-in_default
returns-in_ok-second-in_default c =
    chained_tree c.in_ok-first-in_default.first c.in_ok-second-in_default.second c.new-in_default-2.result
    ∙ rw (c.in_ok-first-in_default.ensures.ok, c.in_ok-second-in_default.ensures.ok, c.new-in_default-2.ensures.items) refl
