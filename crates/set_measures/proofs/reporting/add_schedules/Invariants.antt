use Rattle.std.proofs.Common.{◌++◌}
use Rattle.set_measures.specs.Choices.{schedules_of}
use Rattle.set_measures.specs.Text.{schedules_text}
use Rattle.set_measures.proofs.Going.{runs_left}
use Rattle.set_measures.proofs.Written.{Writing}
use Rattle.set_measures.proofs.reporting.add_schedules.Given as goal

abbrev pub invariant-loop-is_more : goal.invariant-loop-is_more
invariant-loop-is_more l =
    Writing l.form l.rows l.choices (l.fn.text.items ++ schedules_text l.form l.rows 1 (schedules_of l.choices)) l.is_more l.choice l.number l.text.items

abbrev pub decreases-loop-is_more : goal.decreases-loop-is_more
decreases-loop-is_more l = runs_left l.choices l.is_more l.choice
