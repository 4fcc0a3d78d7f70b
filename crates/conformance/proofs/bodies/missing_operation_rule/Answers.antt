use Rattle.std.proofs.Common.{ap, drop, map, sym, ◌∙◌}
use Rattle.std.specs.Prelude.{not}
use Rattle.base.specs.declared.faults.TheConstants.{UNMATCHED_BODY}
use Rattle.ada_tree.specs.StatementTree.{operation_tree}
use Rattle.ada_tree.specs.ProgramTree.{body_item_tree}
use Rattle.expr_rules.specs.Faults.{rule}
use Rattle.expr_rules.specs.Findings.{noted}
use Rattle.conformance.specs.MatchingRules.{missing_operation_rule}
use Rattle.conformance.proofs.bodies.missing_operation_rule.Goals as goal

pub returns-in-Subprogram : goal.returns-in-Subprogram
returns-in-Subprogram c =
    let found = c.args.found.now in
    let behind = map body_item_tree (drop c.args.start c.args.bodies.now) in
    c.note_rule.ensures
    ∙ ap (λ b. noted found (rule UNMATCHED_BODY c.in-Subprogram.subprogram.name.place (not b))) c.has_operation-is_there.ensures
    ∙ ap (λ o. noted found (missing_operation_rule behind c.args.object.now (operation_tree o))) (sym c.in-Subprogram.is)
