use Rattle.std.proofs.Common.{◌∙◌, ◌+◌, ap, drop, map}
use Rattle.ada_tree.specs.ExpressionTree.{expr_tree}
use Rattle.expr_rules.specs.Findings.{noted}
use Rattle.stmt_rules.specs.CaseRules.{values_faults}
use Rattle.stmt_rules.specs.Choosing.{once_after}
use Rattle.stmt_rules.proofs.Turns.{once_turn, values_turn}
use Rattle.stmt_rules.proofs.case.values_faults.Goals as goal

pub loop-e-preserved : goal.loop-e-preserved
loop-e-preserved c =
    let s = c.args.scope.now in
    let w = c.args.wanted in
    let all = c.args.values.now in
    let l = c.loop-e in
    let n = l.e-index in
    let x = c.e-item.result in
    let here = c.in_ok-choice_faults in
    let one = c.choice_faults.new.found in
    let before = l.chosen.keys in
    let less = c.loop-e-test.true in
    let is = c.e-item.is in
    record {
      found = ap (λ v. noted one (values_faults s w v (map expr_tree (drop (n + 1) all)))) here.ensures.chosen
          ∙ values_turn s w before all n x l.found one _ less is l.invariant.found here.ensures.found;
      chosen = ap (λ v. once_after s w v (map expr_tree (drop (n + 1) all))) here.ensures.chosen ∙ once_turn s w before all n x less is ∙ l.invariant.chosen;
    }
