use Rattle.std.proofs.Common.{◌∙◌, ◌+◌, ap, drop}
use Rattle.expr_rules.specs.Findings.{noted}
use Rattle.stmt_rules.specs.Choosing.{seen_after}
use Rattle.stmt_rules.specs.HandlerRules.{exception_choices_faults}
use Rattle.stmt_rules.proofs.Turns.{choices_turn, seen_turn}
use Rattle.stmt_rules.proofs.handlers.choices_faults.Goals as goal

pub loop-choice-preserved : goal.loop-choice-preserved
loop-choice-preserved c =
    let s = c.args.scope.now in
    let last = c.args.is_single_last in
    let all = c.args.choices.now in
    let l = c.loop-choice in
    let n = l.choice-index in
    let x = c.choice-item.result in
    let here = c.in_ok-exception_choice_faults in
    let one = c.exception_choice_faults.new.found in
    let less = c.loop-choice-test.true in
    let is = c.choice-item.is in
    record {
      found = ap (λ v. noted one (exception_choices_faults s v last (drop (n + 1) all))) here.ensures.named
          ∙ choices_turn s last l.named all n x l.found one _ less is l.invariant.found here.ensures.found;
      named = ap (λ v. seen_after v (drop (n + 1) all)) here.ensures.named ∙ seen_turn l.named all n x less is ∙ l.invariant.named;
    }
