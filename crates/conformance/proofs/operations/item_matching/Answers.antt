use Rattle.std.proofs.Common.{map, drop, ap, sym, ◌∙◌}
use Rattle.ada_tree.specs.ProgramTree.{body_item_tree}
use Rattle.expr_rules.specs.Findings.{noted}
use Rattle.conformance.specs.MatchingRules.{item_matching}
use Rattle.conformance.specs.Tables.{front_before, front_specified}
use Rattle.conformance.proofs.operations.item_matching.Goals as goal

pub returns-in-Subprogram : goal.returns-in-Subprogram
returns-in-Subprogram c =
    let front = c.args.front.now in
    let behind = map body_item_tree (drop c.args.behind c.args.bodies.now) in
    c.body_rule.ensures ∙ ap (λ i. noted c.args.found.now (item_matching (front_specified front) (front_before front) behind (body_item_tree i))) (sym c.in-Subprogram.is)
