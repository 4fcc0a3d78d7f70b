use Rattle.std.proofs.Common.{◌≡◌, ◌++◌, drop}
use Rattle.part_code.specs.ChoiceRows.{choice_rows}
use Rattle.stmt_code.proofs.sketch_handlers.add_choices.Given as goal

abbrev pub invariant-loop-choice : goal.invariant-loop-choice
invariant-loop-choice l =
    l.rows.items ++ choice_rows l.exceptions l.row (drop l.choice-index l.choices) ≡ l.fn.rows.items ++ choice_rows l.exceptions l.row l.choices
