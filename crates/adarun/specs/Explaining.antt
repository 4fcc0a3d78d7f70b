-- What a text, a schedule or a set of schedules is refused with is explained.
use Rattle.std.specs.Prelude.{◌≡◌, ℕ, ℤ, List, true}
use Rattle.choices.specs.Faults.{RefusesChoicesText}
use Rattle.choices.specs.declared.faults.ChoicesFault.{ChoicesFault}
use Rattle.clock.specs.Schedules.{RefusesSchedule}
use Rattle.clock.specs.declared.schedule.ScheduleFault.{ScheduleFault}
use Rattle.diagnostics.specs.explanations.Explained.{is_fault_number}
use Rattle.lexer.specs.declared.fault.Fault.{Fault}
use Rattle.adarun.specs.Accepted.{RefusesText}

abbrev pub TextFaultsExplained : Type 0
TextFaultsExplained = (text : List ℕ) (fault : Fault) → RefusesText text fault → is_fault_number fault.number ≡ true

abbrev pub ScheduleFaultsExplained : Type 0
ScheduleFaultsExplained = (text : List ℕ) (fault : ScheduleFault) → RefusesSchedule text fault → is_fault_number fault.number ≡ true

abbrev pub ChoicesFaultsExplained : Type 0
ChoicesFaultsExplained =
    (until : ℤ) (text : List ℕ) (fault : ChoicesFault) → RefusesChoicesText until text fault → is_fault_number fault.number ≡ true
