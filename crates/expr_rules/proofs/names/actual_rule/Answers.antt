use Rattle.std.proofs.Common.{true, sym, ap, ◌∙◌}
use Rattle.base.specs.declared.faults.TheConstants.{NO_MEANING}
use Rattle.ada_tree.specs.ExpressionTree.{expr_tree}
use Rattle.types.specs.Statics.{start_of}
use Rattle.expr_rules.specs.Faults.{rule}
use Rattle.expr_rules.specs.Findings.{noted}
use Rattle.expr_rules.specs.NameRules.{actual_rule}
use Rattle.expr_rules.proofs.Chains.{chain_is_no_variable}
use Rattle.expr_rules.proofs.names.actual_rule.Goals as goal

pub returns-in-Chain : goal.returns-in-Chain
returns-in-Chain c =
    let s = c.args.scope.now in
    let w = c.args.wanted in
    let second = c.in-Chain.field-1.value in
    let tree = ap expr_tree c.in-Chain.is ∙ c.chains_by_parts.ensures c.in-Chain.field-0 c.in-Chain.field-1 c.in-Chain.field-2 in
    let same =
    ap (actual_rule s w) tree
    ∙ chain_is_no_variable s w second.operator (expr_tree c.in-Chain.field-0.value) (expr_tree second.value) c.in-Chain.field-2.items
    ∙ sym (ap (λ t. rule NO_MEANING (start_of t) true) tree) in
    c.note_rule.ensures ∙ (λ j. noted c.args.found.now (rule NO_MEANING (c.start_of.ensures j) true)) ∙ sym (ap (noted c.args.found.now) same)
