-- What is said in words of a source or a schedule that is refused, of every fault of a source, and of how a run came to its end.
use Rattle.std.specs.Prelude.{◌≡◌, ℕ, List, [], ◌∷◌, ◌++◌, Option, Some, None, codes, decimal, drop, if◌then◌else◌, length, nat_eq}
use Rattle.compiler.specs.stmt_code.specs.Placing.{place_at}
use Rattle.compiler.specs.stmt_code.specs.declared.tables.PlaceRow.{PlaceRow}
use Rattle.base.specs.declared.schedule.ScheduleLine.{ScheduleLine}
use Rattle.clock.specs.Schedules.{IsScheduleText}
use Rattle.clock.specs.declared.schedule.ScheduleFault.{ScheduleFault}
use Rattle.endings.specs.Sources.{raised_from}
use Rattle.diagnostics.specs.explanations.Explained.{explanation_of}
use Rattle.diagnostics.specs.hints.Hinted.{AreRemarksAt}
use Rattle.image.specs.Sections.{Sections}
use Rattle.image.specs.Texts.{text_from_one}
use Rattle.lexer.specs.declared.fault.Fault.{Fault}
use Rattle.machine.specs.declared.reports.Outcome.{Outcome}
use Rattle.machine.specs.declared.reports.Outcome.TheVariants as outcomes
use Rattle.source_report.specs.Reports.{place_report, schedule_report, source_report}
use Rattle.compiler.specs.expr_rules.specs.Faults.{Faults}
use Rattle.adarun.specs.CodeTold.{IsCodeTold}
use Rattle.adarun.specs.LastReports.{HasLimitReport, HasWaitReport}
use Rattle.adarun.specs.Naming.{CompilesNamed}
use Rattle.adarun.specs.declared.naming.ObjectNames.{ObjectNames}
use Rattle.adarun.specs.declared.reporting.Unhandled.{Unhandled}

-- The report of the fault, and behind it the lines of what to write instead, and of what is told of the text and of its code beside. (What is told of the code
-- begins with an empty line.)
pub record HasSourceRefusal (file text : List ℕ) (fault : Fault) (report : List ℕ) : Type 0 where
  pub explanation : List ℕ
  pub explained : explanation_of fault.number ≡ Some explanation
  pub remarks : List ℕ
  pub are_remarks : AreRemarksAt fault.number (Some fault.place) text remarks
  pub code : List ℕ
  pub is_code : IsCodeTold fault.number (Some fault.place) text code
  pub report_is : report ≡ source_report file text explanation fault.number fault.place ++ remarks ++ drop 1 code

-- None where the number is that of no fault
abbrev pub IsSourceRefusal : (file text : List ℕ) → Fault → Option (List ℕ) → Type 0
IsSourceRefusal file text fault None = explanation_of fault.number ≡ None
IsSourceRefusal file text fault (Some report) = HasSourceRefusal file text fault report

-- what is said of the fault, or nothing where the number is that of no fault
abbrev pub words_or_none : Option (List ℕ) → List ℕ
words_or_none (Some words) = words
words_or_none None = []

-- the text grows by what is said of the fault
pub record AddsRefusal (file text : List ℕ) (fault : Fault) (old new : List ℕ) : Type 0 where
  pub report : Option (List ℕ)
  pub is_report : IsSourceRefusal file text fault report
  pub new_is : new ≡ old ++ words_or_none report

-- the text grows by what is said of each of the faults, in their order
pub data AddsRefusals (file text : List ℕ) (old : List ℕ) : Faults → List ℕ → Type 0 where
  AddsNone : AddsRefusals file text old [] old
  AddsOne : (faults : Faults) (fault : Fault) (before new : List ℕ) → AddsRefusals file text old faults before → AddsRefusal file text fault before new
      → AddsRefusals file text old (faults ++ fault ∷ []) new

-- `1 fault`, or their number and `faults`
abbrev pub count_line : ℕ → List ℕ
count_line count = decimal count ++ (if nat_eq count 1 then codes " fault\n" else codes " faults\n")

-- what is said of every fault of a text: each in its turn, and how many there are
pub record IsFaultReport (file text : List ℕ) (faults : Faults) (report : List ℕ) : Type 0 where
  pub words : List ℕ
  pub says_each : AddsRefusals file text [] faults words
  pub report_is : report ≡ words ++ count_line (length faults)

pub record HasScheduleRefusal (file text : List ℕ) (fault : ScheduleFault) (report : List ℕ) : Type 0 where
  pub explanation : List ℕ
  pub explained : explanation_of fault.number ≡ Some explanation
  pub report_is : report ≡ schedule_report file text explanation fault.number fault.line

abbrev pub IsScheduleRefusal : (file text : List ℕ) → ScheduleFault → Option (List ℕ) → Type 0
IsScheduleRefusal file text fault None = explanation_of fault.number ≡ None
IsScheduleRefusal file text fault (Some report) = HasScheduleRefusal file text fault report

-- the place of the innermost statement or declaration of whose code the instruction is, by the places of the text's statements and declarations
abbrev pub raise_place : List PlaceRow → (address : Option ℕ) → Option ℕ
raise_place places (Some address) = place_at places address
raise_place places None = None

-- that an exception of this name came from there
abbrev pub raise_report : (file text name : List ℕ) → (place : Option ℕ) → Option (List ℕ)
raise_report file text name (Some place) = Some (place_report file text place (name ++ codes " was raised here"))
raise_report file text name None = None

-- The report of the run of the text's image on the schedule: where the last exception came from that the task had.
pub record IsRaiseReport (file text input : List ℕ) (run : Unhandled) (report : Option (List ℕ)) : Type 0 where
  pub image : Sections
  pub objects : List ObjectNames
  pub places : List PlaceRow
  pub compiles : CompilesNamed text image objects places
  pub lines : List ScheduleLine
  pub is_schedule : IsScheduleText input lines
  pub report_is : report ≡ raise_report file text (text_from_one image.exceptions run.exception)
      (raise_place places (raised_from image lines run.limit run.task))

-- by the outcome of a run with this limit on steps
abbrev pub IsOutcomeReport : (file text input : List ℕ) → (limit : ℕ) → Outcome → Option (List ℕ) → Type 0
IsOutcomeReport file text input limit (outcomes.Unhandled exception task time) report =
    IsRaiseReport file text input (record { limit = limit; task = task; exception = exception }) report
IsOutcomeReport file text input limit (outcomes.WaitsForever time) (Some report) = HasWaitReport file text input limit report
IsOutcomeReport file text input limit (outcomes.StepLimit time) (Some report) = HasLimitReport file text input limit report
IsOutcomeReport file text input limit (outcomes.Ended time) report = report ≡ None
IsOutcomeReport file text input limit (outcomes.ImageFault time) report = report ≡ None
IsOutcomeReport file text input limit outcome None = ⊥
