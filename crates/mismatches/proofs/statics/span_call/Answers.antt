use Rattle.std.proofs.Common.{sym, ap, ◌∙◌}
use Rattle.ada_tree.specs.ExpressionTree.{expr_tree}
use Rattle.type_rules.specs.ObjectRules.{span_call}
use Rattle.mismatches.proofs.Calls.{chain_is_no_call}
use Rattle.mismatches.proofs.statics.span_call.Goals as goal

pub returns-in-Chain : goal.returns-in-Chain
returns-in-Chain c =
    let s = c.args.scope.now in
    let second = c.in-Chain.field-1.value in
    let tree = ap expr_tree c.in-Chain.is ∙ c.chains_by_parts.ensures c.in-Chain.field-0 c.in-Chain.field-1 c.in-Chain.field-2 in
    sym (ap (span_call s) tree ∙ chain_is_no_call s second.operator (expr_tree c.in-Chain.field-0.value) (expr_tree second.value) c.in-Chain.field-2.items)
