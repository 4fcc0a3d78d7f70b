use Rattle.std.proofs.Common.{sym, ap, ◌∙◌}
use Rattle.ada_tree.specs.ExpressionTree.{Binary, expr_tree}
use Rattle.types.specs.Knowing.{combined, found, found_after}
use Rattle.types.proofs.Finding.{found_binary, found_chain}
use Rattle.types.proofs.scope.Scope.+known.Goals as goal

pub known-returns-in-Chain : goal.known-returns-in-Chain
known-returns-in-Chain t c =
    let s = c.args.self.now in
    let first = expr_tree c.in-Chain.first.value in
    let operator = c.in-Chain.second.value.operator in
    let second = expr_tree c.in-Chain.second.value.value in
    let more = c.in-Chain.more.items in
    let left = c.known-left.ensures ∙ ap (λ e. found s (expr_tree e)) c.deref-in-Chain.ensures in
    let right = c.known-right.ensures ∙ ap (λ o. found s (expr_tree o.value)) c.deref-in-Chain-2.ensures in
    let both = c.with.ensures ∙ (λ j. combined ((c.deref-in-Chain-3.ensures j).operator) (left j) (right j)) in
    let whole =
    ap (λ e. found s (expr_tree e)) c.in-Chain.is
    ∙ ap (found s) (c.chains_by_parts.ensures c.in-Chain.first c.in-Chain.second c.in-Chain.more)
    ∙ found_chain s (Binary operator first second) more
    ∙ ap (λ x. found_after s x more) (found_binary s operator first second) in
    c.known_after.ensures ∙ (λ j. found_after s (both j) (c.deref-in-Chain-4.ensures.value j)) ∙ sym whole
