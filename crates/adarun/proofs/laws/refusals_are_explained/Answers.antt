use Rattle.adarun.proofs.Compiling.{of_text}
use Rattle.adarun.proofs.Explaining.{choices_number, schedule_number, text_number}
use Rattle.adarun.proofs.laws.refusals_are_explained.Goals as goal

pub returns-clause-texts : goal.returns-clause-texts
returns-clause-texts c text fault refused =
    text_number fault.number (of_text c.spelling_numbers.ensures c.grammar_numbers.ensures c.legality_numbers.ensures c.restriction_numbers.ensures text fault refused)

pub returns-clause-schedules : goal.returns-clause-schedules
returns-clause-schedules c = schedule_number

pub returns-clause-choices : goal.returns-clause-choices
returns-clause-choices c = choices_number
