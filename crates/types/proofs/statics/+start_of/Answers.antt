use Rattle.std.proofs.Common.{sym, ap, ◌∙◌}
use Rattle.ada_tree.specs.ExpressionTree.{Binary, expr_tree}
use Rattle.types.specs.Statics.{start_of}
use Rattle.types.proofs.Finding.{chain_start}
use Rattle.types.proofs.statics.+start_of.Goals as goal

pub returns-in-Chain : goal.returns-in-Chain
returns-in-Chain t c =
    let second = c.in-Chain.field-1.value in
    let first = expr_tree c.in-Chain.first.value in
    let whole =
    ap (λ e. start_of (expr_tree e)) c.in-Chain.is
    ∙ ap start_of (c.chains_by_parts.ensures c.in-Chain.first c.in-Chain.field-1 c.in-Chain.field-2)
    ∙ chain_start (Binary second.operator first (expr_tree second.value)) c.in-Chain.field-2.items in
    c.start_of.ensures ∙ ap (λ e. start_of (expr_tree e)) c.deref.ensures ∙ sym whole
