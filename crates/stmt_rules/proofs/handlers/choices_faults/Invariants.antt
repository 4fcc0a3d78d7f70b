use Rattle.std.proofs.Common.{◌≡◌, drop}
use Rattle.expr_rules.specs.Findings.{noted}
use Rattle.stmt_rules.specs.Choosing.{seen_after}
use Rattle.stmt_rules.specs.HandlerRules.{exception_choices_faults}
use Rattle.stmt_rules.proofs.handlers.choices_faults.Given as goal

abbrev pub invariant-loop-choice : goal.invariant-loop-choice
invariant-loop-choice l =
    record {
      found : noted l.found (exception_choices_faults l.scope l.named l.is_single_last (drop l.choice-index l.choices))
          ≡ noted l.fn.found (exception_choices_faults l.scope l.fn.named l.is_single_last l.choices);
      named : seen_after l.named (drop l.choice-index l.choices) ≡ seen_after l.fn.named l.choices;
    }
