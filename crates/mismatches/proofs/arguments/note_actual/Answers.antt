use Rattle.std.proofs.Common.{true, sym, ap, ◌∙◌}
use Rattle.ada_tree.specs.ExpressionTree.{expr_tree}
use Rattle.types.specs.Statics.{start_of}
use Rattle.mismatches.specs.declared.conflict.Conflict.TheVariants.{NoVariable}
use Rattle.mismatches.specs.Conflicts.{conflict_if, noted}
use Rattle.mismatches.specs.ExpressionMismatches.{actual_mismatch}
use Rattle.mismatches.proofs.Chains.{chain_is_no_variable}
use Rattle.mismatches.proofs.arguments.note_actual.Goals as goal

pub returns-in-Chain : goal.returns-in-Chain
returns-in-Chain c =
    let s = c.args.scope.now in
    let w = c.args.wanted in
    let second = c.in-Chain.field-1.value in
    let tree = ap expr_tree c.in-Chain.is ∙ c.chains_by_parts.ensures c.in-Chain.field-0 c.in-Chain.field-1 c.in-Chain.field-2 in
    let same =
    ap (actual_mismatch s w) tree
    ∙ chain_is_no_variable s w second.operator (expr_tree c.in-Chain.field-0.value) (expr_tree second.value) c.in-Chain.field-2.items
    ∙ sym (ap (λ t. conflict_if (start_of t) NoVariable true) tree) in
    c.note.ensures ∙ (λ j. noted c.args.search.now (conflict_if (c.start_of.ensures j) NoVariable true)) ∙ sym (ap (noted c.args.search.now) same)
