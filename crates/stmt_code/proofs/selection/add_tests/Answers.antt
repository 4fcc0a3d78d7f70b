use Rattle.std.proofs.Common.{◌≡◌, ◌∙◌, rules, to_z, of_z, w64}
use Rattle.stmt_code.proofs.ChoicesMade.{tests_end, tests_step}
use Rattle.stmt_code.proofs.selection.add_tests.Goals as goal

pub loop-choice-preserved : goal.loop-choice-preserved
loop-choice-preserved c =
    let word : to_z w64 (of_z w64 c.choice_word.result) ≡ c.choice_word.result = search rules in
    tests_step c.args.scope.now c.args.label c.args.choices.now c.loop-choice.fragment c.add_test.new.fragment _ c.loop-choice.choice-index
    c.choice-item.result _ c.loop-choice-test.true c.choice-item.is (word ∙ c.choice_word.ensures) c.in_ok-add_test.ensures.made c.loop-choice.invariant

pub returns : goal.returns
returns c = record {
  made = tests_end c.args.scope.now c.args.label c.args.choices.now c.loop-choice.fragment _ c.loop-choice.choice-index c.loop-choice-test.false
      c.loop-choice.invariant;
}
