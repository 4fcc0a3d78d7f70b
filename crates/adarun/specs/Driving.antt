-- What the program's work over files leaves, by what is asked for and by its exit status.
use Rattle.std.specs.Prelude.{◌≡◌, ◌≢◌, ◌<◌, ◌⊎◌, ◌++◌, ℕ, ℤ, Bool, true, false, List, [], Option, Some, None, if◌then◌else◌, nat_eq, ⊤}
use Rattle.std.specs.Io.KnownBytes.{Appends}
use Rattle.base.specs.declared.faults.TheConstants.{MEMORY_REFUSED}
use Rattle.base.specs.declared.schedule.ScheduleLine.{ScheduleLine}
use Rattle.choices.specs.Faults.{RefusesChoicesText}
use Rattle.choices.specs.Sets.{IsChoicesText}
use Rattle.choices.specs.Slots.{Slot}
use Rattle.choices.specs.declared.faults.ChoicesFault.{ChoicesFault}
use Rattle.choices.specs.declared.part.Part.{Part}
use Rattle.clock.specs.Schedules as schedules
use Rattle.clock.specs.declared.schedule.ScheduleFault.{ScheduleFault}
use Rattle.diagnostics.specs.explanations.Explained.{explanation_of}
use Rattle.file_limits.specs.declared.TheConstants.{CHOICES_BYTES, IMAGE_BYTES, SCHEDULE_BYTES, SOURCE_BYTES}
use Rattle.compiler.specs.package_code.specs.Places.{PlacesTell}
use Rattle.compiler.specs.stmt_code.specs.declared.tables.PlaceRow.{PlaceRow}
use Rattle.diagnostics.specs.hints.Explained.{IsExplained}
use Rattle.lexer.specs.declared.fault.Fault.{Fault}
use Rattle.manual.specs.declared.TheConstants.{MANUAL, VERSION}
use Rattle.image_format.specs.Bytes.{bytes_of}
use Rattle.image.specs.Code.{code, code_text}
use Rattle.image_format.specs.Listing.{listing_of}
use Rattle.image_loading.specs.Loaded.{IsLoaded}
use Rattle.image_loading.specs.Loading.{image_fault}
use Rattle.image.specs.Sections.{Sections}
use Rattle.image.specs.declared.fault.ImageFault as refused
use Rattle.machine.specs.Bounds.{IsBound}
use Rattle.machine.specs.Stands.{EndsBy}
use Rattle.machine.specs.Written.{AppendsBeginning}
use Rattle.machine.specs.declared.bound.Bound.{Bound}
use Rattle.machine.specs.declared.bound.Cut.{Cut}
use Rattle.machine.specs.declared.reports.Outcome.{Outcome}
use Rattle.machine.specs.declared.reports.Outcome.TheVariants as outcomes
use Rattle.searching.specs.declared.sight.Wanted.{Wanted}
use Rattle.searching.specs.declared.sight.Wanted.TheVariants as sights
use Rattle.charts.specs.Text.{chart_text}
use Rattle.pictures.specs.Pictures.{picture_text}
use Rattle.tracing.specs.Known.{Known}
use Rattle.tracing.specs.Traces.{trace_text}
use Rattle.measuring.specs.Text.{measures_text}
use Rattle.measuring.specs.declared.text.Form.{Form}
use Rattle.measuring.specs.declared.text.Form.TheVariants as tables
use Rattle.set_measures.specs.Sets.{IsMeasuredSet}
use Rattle.set_measures.specs.Text.{set_text}
use Rattle.set_measures.specs.declared.set.SetMeasures.{SetMeasures}
use Rattle.variable_places.specs.Shown.{program_scopes}
use Rattle.waveforms.specs.Scopes.{Scopes}
use Rattle.waveforms.specs.TimeWaves.{time_waves_text}
use Rattle.waveforms.specs.Waves.{waves_text}
use Rattle.command_line.specs.Words.{CheckText, Command, CompileText, ExplainFault, ExplainText, FormatText, GoText, ListImage, LowerText, MeasureSet, Nothing, RunImage, ShowManual, ShowVersion, SearchText, SimulateText, TraceText, asked, is_told}
use Rattle.command_line.specs.Words as words_of
use Rattle.adarun.specs.Accepted.{Compiles, RefusesText}
use Rattle.adarun.specs.CodeTold.{IsCodeTold}
use Rattle.adarun.specs.Formatting.{LeavesFormat}
use Rattle.adarun.specs.Headline.{Runs, WritesBeginning, WritesItsMeaning}
use Rattle.adarun.specs.Lowering.{LeavesLowered}
use Rattle.adarun.specs.Naming.{names_alone, object_names}
use Rattle.adarun.specs.Operations.{subprogram_names}
use Rattle.adarun.specs.Origins.{known_in}
use Rattle.adarun.specs.Reading.{Contents, IsBeginningRead, IsContentRead, with_input}
use Rattle.adarun.specs.Searching.{BeginsReport, WritesReport}
use Rattle.adarun.specs.Stopping.{HasImage}
use Rattle.adarun.specs.TextFaults.{AreTextFaults}
use Rattle.adarun.specs.Timed.{WritesBeginningUntil, WritesItsMeaningUntil}
use Rattle.adarun.specs.Reporting.{IsFaultReport}
use Rattle.compiler.specs.expr_rules.specs.Faults.{Faults}
use Rattle.adarun.specs.declared.compilation.Named.{Named}
use Rattle.adarun.specs.declared.exploring.SearchOutcome.{SearchOutcome}
use Rattle.adarun.specs.declared.exploring.SearchOutcome.TheVariants as searches
use Rattle.adarun.specs.declared.files.ReadError.{ReadError}
use Rattle.adarun.specs.declared.files.ReadError.TheVariants as errors
use Rattle.adarun.specs.declared.program.Status.{Status}
use Rattle.command_line.specs.declared.View.{View}
use Rattle.command_line.specs.declared.View.TheVariants as views
use Rattle.adarun.specs.declared.program.Status.TheVariants.{Done, Failed, SourceRefused, Unhandled, WaitsForever, StepLimit, ImageFault, ScheduleRefused, NoMemory, LineFound}

-- the exit status of a run's outcome (docs/FORMATS.md, "Exit statuses")
abbrev pub status_of : Outcome → Status
status_of (outcomes.Ended time) = Done
status_of (outcomes.Unhandled exception task time) = Unhandled
status_of (outcomes.WaitsForever time) = WaitsForever
status_of (outcomes.StepLimit time) = StepLimit
status_of (outcomes.ImageFault time) = ImageFault

-- the exit status of a file that wasn't read
abbrev pub unread : ReadError → Status
unread errors.Memory = NoMemory
unread errors.Unreadable = Failed

-- what becomes of a sink, by the exit status: it was given nothing where a text or a schedule was refused or memory was; where the work
-- failed it was given nothing, or a write failed; wherever it did not fail no write did
abbrev pub KeepsSink : Status → Type 0 → ℕ → ℕ → Type 0
KeepsSink status Same before after =
    (status ≡ SourceRefused → Same)
    × ((status ≡ ScheduleRefused → Same)
    × ((status ≡ NoMemory → Same) × ((status ≡ Failed → Same ⊎ (before < after)) × (status ≢ Failed → after ≡ before))))

-- Of `go` and `simulate`, where this is the content of the schedule, as far as it is known

-- both texts were read, and the run of the source under the schedule has written what the source means, with an outcome of this status
pub record HasRun (contents : Contents) (source : List ℕ) (given : Option (List ℕ)) (limit : ℕ) (status : Status) (old new : Option (List ℕ)) : Type 0 where
  pub text : List ℕ
  pub source_read : IsContentRead (contents source) text
  pub input : List ℕ
  pub input_read : IsContentRead given input
  pub outcome : Outcome
  pub status_is : status ≡ status_of outcome
  pub meaning : WritesItsMeaning text input limit outcome old new
  pub runs : Runs text input limit outcome old new

-- the beginning of the source was read that decides, and refused for its own sake
pub record HasRefusedSource (contents : Contents) (source : List ℕ) (old new : Option (List ℕ)) : Type 0 where
  pub text : List ℕ
  pub source_read : IsBeginningRead (contents source) SOURCE_BYTES text
  pub fault : Fault
  pub refused : RefusesText text fault
  pub not_memory : fault.number ≢ MEMORY_REFUSED
  pub unwritten : new ≡ old

-- both files were read, the source compiles, and the schedule was refused for its own sake
pub record HasRefusedSchedule (contents : Contents) (source : List ℕ) (given : Option (List ℕ)) (old new : Option (List ℕ)) : Type 0 where
  pub text : List ℕ
  pub source_read : IsContentRead (contents source) text
  pub input : List ℕ
  pub input_read : IsBeginningRead given SCHEDULE_BYTES input
  pub compiles : HasImage text
  pub fault : ScheduleFault
  pub refused : schedules.RefusesSchedule input fault
  pub not_memory : fault.number ≢ MEMORY_REFUSED
  pub unwritten : new ≡ old

-- both files were read, and the source's run was begun, of which a beginning was written
pub record HasBegun (contents : Contents) (source : List ℕ) (given : Option (List ℕ)) (limit : ℕ) (old new : Option (List ℕ)) : Type 0 where
  pub text : List ℕ
  pub source_read : IsContentRead (contents source) text
  pub input : List ℕ
  pub input_read : IsContentRead given input
  pub begins : WritesBeginning text input limit old new

-- what `go` wrote to standard output, by the exit status
abbrev pub LeavesGo : Contents → List ℕ → (given : Option (List ℕ)) → ℕ → Status → Option (List ℕ) → Option (List ℕ) → Type 0
LeavesGo contents source given limit SourceRefused old new = HasRefusedSource contents source old new
LeavesGo contents source given limit ScheduleRefused old new = HasRefusedSchedule contents source given old new
LeavesGo contents source given limit NoMemory old new = new ≡ old
LeavesGo contents source given limit Failed old new = (new ≡ old) ⊎ HasBegun contents source given limit old new
LeavesGo contents source given limit status old new = HasRun contents source given limit status old new

-- ---- `simulate` up to a time

-- both texts were read, and the run of the source under the schedule has written what the source means up to the time, with an outcome of this status
pub record HasRunUntil (contents : Contents) (source : List ℕ) (given : Option (List ℕ)) (until : ℤ) (limit : ℕ) (status : Status)
    (old new : Option (List ℕ)) : Type 0 where
  pub text : List ℕ
  pub source_read : IsContentRead (contents source) text
  pub input : List ℕ
  pub input_read : IsContentRead given input
  pub cut : Cut
  pub outcome : Outcome
  pub status_is : status ≡ status_of outcome
  pub meaning : WritesItsMeaningUntil text input until limit cut outcome old new

-- both files were read, and the source's run up to the time was begun, of which a beginning was written
pub record HasBegunUntil (contents : Contents) (source : List ℕ) (given : Option (List ℕ)) (until : ℤ) (limit : ℕ) (old new : Option (List ℕ)) : Type 0 where
  pub text : List ℕ
  pub source_read : IsContentRead (contents source) text
  pub input : List ℕ
  pub input_read : IsContentRead given input
  pub begins : WritesBeginningUntil text input until limit old new

-- what it wrote to standard output, by the exit status
abbrev pub LeavesUntil : Contents → List ℕ → (given : Option (List ℕ)) → (until : ℤ) → ℕ → Status → Option (List ℕ) → Option (List ℕ) → Type 0
LeavesUntil contents source given until limit SourceRefused old new = HasRefusedSource contents source old new
LeavesUntil contents source given until limit ScheduleRefused old new = HasRefusedSchedule contents source given old new
LeavesUntil contents source given until limit NoMemory old new = new ≡ old
LeavesUntil contents source given until limit Failed old new = (new ≡ old) ⊎ HasBegunUntil contents source given until limit old new
LeavesUntil contents source given until limit status old new = HasRunUntil contents source given until limit status old new

-- a whole run, or one up to a time
abbrev pub LeavesSimulate : Contents → (source : List ℕ) → (given : Option (List ℕ)) → (until : Option ℤ) → (limit : ℕ) → Status → Option (List ℕ)
    → Option (List ℕ) → Type 0
LeavesSimulate contents source given None limit = LeavesGo contents source given limit
LeavesSimulate contents source given (Some until) limit = LeavesUntil contents source given until limit

-- what the file of a schedule has, as far as it is known; without one the schedule is empty
abbrev pub input_of : Contents → Option (List ℕ) → Option (List ℕ)
input_of contents None = Some []
input_of contents (Some name) = contents name

-- ---- `trace`

-- what is written of a run, by its image, the names of its objects, what is known of its source, its schedule and its bound: rows, a value change dump over
-- steps or over virtual time, a chart, a picture, or what is measured of it, as a table or as fields
abbrev pub text_of : View → Sections → List (List ℕ) → Scopes → Known → List ScheduleLine → Bound → List ℕ
text_of views.Rows = λ i objects scopes. trace_text i objects
text_of views.Dump = λ i objects scopes known. waves_text i scopes
text_of views.TimeDump = λ i objects scopes known. time_waves_text i scopes
text_of views.Chart = λ i objects scopes known. chart_text i objects
text_of views.Picture = λ i objects scopes known. picture_text i objects
text_of views.Measures = λ i objects scopes known. measures_text tables.Table i objects
text_of views.MeasuredFields = λ i objects scopes known. measures_text tables.Fields i objects

-- what this view has of a run of a named image, by the text that it was compiled of
abbrev pub named_text : View → (text : List ℕ) → Named → List ScheduleLine → Bound → List ℕ
named_text view text named =
    text_of view named.image (names_alone named.objects.items) named.scopes (known_in text named.image named.places named.subprograms.items)

-- this view of a run of a named image, up to a time if one is given, was written, with this outcome
pub record IsViewed (view : View) (text : List ℕ) (named : Named) (lines : List ScheduleLine) (until : Option ℤ) (limit : ℕ) (old new : Option (List ℕ))
    (outcome : Outcome) : Type 0 where
  pub bound : Bound
  pub bounded : IsBound named.image lines until limit bound
  pub written : Appends old new (named_text view text named lines bound)
  pub ends : EndsBy outcome (code named.image lines bound.steps)

-- a beginning of that view was written
pub record IsViewBegun (view : View) (text : List ℕ) (named : Named) (lines : List ScheduleLine) (until : Option ℤ) (limit : ℕ) (old new : Option (List ℕ))
    : Type 0 where
  pub bound : Bound
  pub bounded : IsBound named.image lines until limit bound
  pub begins : AppendsBeginning old new (named_text view text named lines bound)

-- the file was read, and its lines are a schedule
pub record HasSchedule (contents : Contents) (name : List ℕ) : Type 0 where
  pub input : List ℕ
  pub read : IsContentRead (contents name) input
  pub lines : List ScheduleLine
  pub is_schedule : schedules.IsScheduleText input lines

-- The source was read and compiled, the second file is a schedule, and this view of the image's run, up to a time if one is given, was written, with an outcome
-- of this status.
-- Objects and their operations have their names in the source, and an instruction comes from the line and the column of the innermost statement whose code it
-- is.
pub record HasTraced (view : View) (contents : Contents) (source schedule : List ℕ) (until : Option ℤ) (limit : ℕ) (status : Status)
    (old new : Option (List ℕ)) : Type 0 where
  pub text : List ℕ
  pub source_read : IsContentRead (contents source) text
  pub image : Sections
  pub compiles : Compiles text image
  pub given : HasSchedule contents schedule
  pub places : List PlaceRow
  pub placed : PlacesTell compiles.tree image places
  pub bound : Bound
  pub bounded : IsBound image given.lines until limit bound
  pub outcome : Outcome
  pub status_is : status ≡ status_of outcome
  pub written : Appends old new (text_of view image (object_names compiles.tree) (program_scopes compiles.tree)
      (known_in text image places (subprogram_names compiles.tree)) given.lines bound)
  pub ends : EndsBy outcome (code image given.lines bound.steps)

-- a beginning of that trace was written
pub record HasBegunTrace (view : View) (contents : Contents) (source schedule : List ℕ) (until : Option ℤ) (limit : ℕ)
    (old new : Option (List ℕ)) : Type 0 where
  pub text : List ℕ
  pub source_read : IsContentRead (contents source) text
  pub image : Sections
  pub compiles : Compiles text image
  pub given : HasSchedule contents schedule
  pub places : List PlaceRow
  pub placed : PlacesTell compiles.tree image places
  pub bound : Bound
  pub bounded : IsBound image given.lines until limit bound
  pub begins : AppendsBeginning old new (text_of view image (object_names compiles.tree) (program_scopes compiles.tree)
      (known_in text image places (subprogram_names compiles.tree)) given.lines bound)

-- what `trace` wrote to standard output, by the exit status
abbrev pub LeavesTrace : View → Contents → (source schedule : List ℕ) → (until : Option ℤ) → (limit : ℕ) → Status → Option (List ℕ) → Option (List ℕ)
    → Type 0
LeavesTrace view contents source schedule until limit SourceRefused old new = HasRefusedSource contents source old new
LeavesTrace view contents source schedule until limit ScheduleRefused old new = HasRefusedSchedule contents source (contents schedule) old new
LeavesTrace view contents source schedule until limit NoMemory old new = new ≡ old
LeavesTrace view contents source schedule until limit Failed old new = (new ≡ old) ⊎ HasBegunTrace view contents source schedule until limit old new
LeavesTrace view contents source schedule until limit status old new = HasTraced view contents source schedule until limit status old new

-- ---- images

-- the file was read, and its bytes are those of this image
pub record HasLoaded (contents : Contents) (name : List ℕ) (i : Sections) : Type 0 where
  pub bytes : List ℕ
  pub read : IsContentRead (contents name) bytes
  pub loaded : IsLoaded bytes i

-- The file was read, and its bytes break a rule. Of a file that is longer than any image the rule is one that its first bytes break.
pub record HasRefusedImage (contents : Contents) (name : List ℕ) (old new : Option (List ℕ)) : Type 0 where
  pub bytes : List ℕ
  pub read : IsBeginningRead (contents name) IMAGE_BYTES bytes
  pub fault : refused.ImageFault
  pub refused : image_fault bytes ≡ Some fault
  pub unwritten : new ≡ old

-- ---- `list`

pub record HasListed (contents : Contents) (name : List ℕ) (old new : Option (List ℕ)) : Type 0 where
  pub image : Sections
  pub loaded : HasLoaded contents name image
  pub written : Appends old new (listing_of image)

-- a beginning of the listing was written
pub record HasBegunListing (contents : Contents) (name : List ℕ) (old new : Option (List ℕ)) : Type 0 where
  pub image : Sections
  pub loaded : HasLoaded contents name image
  pub begins : AppendsBeginning old new (listing_of image)

abbrev pub LeavesList : Contents → List ℕ → Status → Option (List ℕ) → Option (List ℕ) → Type 0
LeavesList contents name Done old new = HasListed contents name old new
LeavesList contents name ImageFault old new = HasRefusedImage contents name old new
LeavesList contents name NoMemory old new = new ≡ old
LeavesList contents name Failed old new = (new ≡ old) ⊎ HasBegunListing contents name old new
LeavesList contents name status old new = ⊥

-- ---- `explain`

-- the number is that of a fault, and its explanation was written
pub record HasExplained (number : ℕ) (old new : Option (List ℕ)) : Type 0 where
  pub text : List ℕ
  pub explained : explanation_of number ≡ Some text
  pub written : Appends old new text

-- a beginning of the explanation was written
pub record HasBegunExplaining (number : ℕ) (old new : Option (List ℕ)) : Type 0 where
  pub text : List ℕ
  pub explained : explanation_of number ≡ Some text
  pub begins : AppendsBeginning old new text

abbrev pub LeavesExplain : ℕ → Status → Option (List ℕ) → Option (List ℕ) → Type 0
LeavesExplain number Done old new = HasExplained number old new
LeavesExplain number Failed old new = ((explanation_of number ≡ None) × (new ≡ old)) ⊎ HasBegunExplaining number old new
LeavesExplain number status old new = ⊥

-- ---- `manual` and `version`

abbrev pub LeavesShown : (text : List ℕ) → Status → Option (List ℕ) → Option (List ℕ) → Type 0
LeavesShown text Done old new = Appends old new text
LeavesShown text Failed old new = AppendsBeginning old new text
LeavesShown text status old new = ⊥

-- ---- `explain` of a text

-- the text is refused for its own sake, by this number at this place
pub record HasFaultAt (number place : ℕ) (text : List ℕ) : Type 0 where
  pub fault : Fault
  pub refused : RefusesText text fault
  pub not_memory : fault.number ≢ MEMORY_REFUSED
  pub number_is : fault.number ≡ number
  pub place_is : fault.place ≡ place

-- the text is refused for its own sake, but not by this number
pub record HasAnotherFault (number : ℕ) (text : List ℕ) : Type 0 where
  pub fault : Fault
  pub refused : RefusesText text fault
  pub not_memory : fault.number ≢ MEMORY_REFUSED
  pub another : fault.number ≢ number

-- the place of the text's fault, where that has this number; None where the text compiles, or has another fault
abbrev pub IsFaultPlace : ℕ → List ℕ → Option ℕ → Type 0
IsFaultPlace number text (Some place) = HasFaultAt number place text
IsFaultPlace number text None = HasImage text ⊎ HasAnotherFault number text

-- the explanation of the number with what is told of the text behind it, and behind that what is told of its code
pub record HasWholeTold (number : ℕ) (text whole : List ℕ) : Type 0 where
  pub place : Option ℕ
  pub is_place : IsFaultPlace number text place
  pub told : List ℕ
  pub explained : IsExplained number place text (Some told)
  pub code : List ℕ
  pub is_code : IsCodeTold number place text code
  pub whole_is : whole ≡ told ++ code

-- None where no fault has the number
abbrev pub IsWholeTold : ℕ → List ℕ → Option (List ℕ) → Type 0
IsWholeTold number text None = explanation_of number ≡ None
IsWholeTold number text (Some whole) = HasWholeTold number text whole

-- the source was read, and the explanation was written with what is told of this source behind it
pub record HasExplainedText (contents : Contents) (source : List ℕ) (number : ℕ) (old new : Option (List ℕ)) : Type 0 where
  pub text : List ℕ
  pub source_read : IsBeginningRead (contents source) SOURCE_BYTES text
  pub whole : List ℕ
  pub told : IsWholeTold number text (Some whole)
  pub written : Appends old new whole

-- a beginning of that was written
pub record HasBegunExplainingText (contents : Contents) (source : List ℕ) (number : ℕ) (old new : Option (List ℕ)) : Type 0 where
  pub text : List ℕ
  pub source_read : IsBeginningRead (contents source) SOURCE_BYTES text
  pub whole : List ℕ
  pub told : IsWholeTold number text (Some whole)
  pub begins : AppendsBeginning old new whole

abbrev pub LeavesExplainText : Contents → List ℕ → ℕ → Status → Option (List ℕ) → Option (List ℕ) → Type 0
LeavesExplainText contents source number Done old new = HasExplainedText contents source number old new
LeavesExplainText contents source number NoMemory old new = new ≡ old
LeavesExplainText contents source number Failed old new = (new ≡ old) ⊎ HasBegunExplainingText contents source number old new
LeavesExplainText contents source number status old new = ⊥

-- ---- `check`, which writes to standard error

-- the source was read and has no fault, and nothing was written
pub record HasNoFault (contents : Contents) (source : List ℕ) (old new : Option (List ℕ)) : Type 0 where
  pub text : List ℕ
  pub source_read : IsContentRead (contents source) text
  pub no_faults : AreTextFaults text []
  pub unwritten : new ≡ old

-- the source was read, and the report of all its faults was written
pub record HasReportedFaults (contents : Contents) (source : List ℕ) (old new : Option (List ℕ)) : Type 0 where
  pub text : List ℕ
  pub source_read : IsBeginningRead (contents source) SOURCE_BYTES text
  pub faults : Faults
  pub are_faults : AreTextFaults text faults
  pub are_any : faults ≢ []
  pub report : List ℕ
  pub is_report : IsFaultReport source text faults report
  pub written : Appends old new report

-- What `check` wrote to standard error, by the exit status. Where it failed or memory was refused, the line that says so, or a beginning of the report, is
-- tested.
abbrev pub LeavesCheck : Contents → List ℕ → Status → Option (List ℕ) → Option (List ℕ) → Type 0
LeavesCheck contents source Done old new = HasNoFault contents source old new
LeavesCheck contents source SourceRefused old new = HasReportedFaults contents source old new
LeavesCheck contents source Failed old new = ⊤
LeavesCheck contents source NoMemory old new = ⊤
LeavesCheck contents source status old new = ⊥

-- ---- `run`

-- the image was loaded, the second file is a schedule, and the image's run had an outcome of this status
pub record HasRunImage (contents : Contents) (name schedule : List ℕ) (limit : ℕ) (status : Status) (old new : Option (List ℕ)) : Type 0 where
  pub image : Sections
  pub loaded : HasLoaded contents name image
  pub given : HasSchedule contents schedule
  pub outcome : Outcome
  pub status_is : status ≡ status_of outcome
  pub written : Appends old new (code_text image given.lines limit)
  pub ends : EndsBy outcome (code image given.lines limit)

-- the image was loaded, and the schedule was refused for its own sake
pub record HasRefusedScheduleOfImage (contents : Contents) (name schedule : List ℕ) (old new : Option (List ℕ)) : Type 0 where
  pub image : Sections
  pub loaded : HasLoaded contents name image
  pub input : List ℕ
  pub read : IsBeginningRead (contents schedule) SCHEDULE_BYTES input
  pub fault : ScheduleFault
  pub refused : schedules.RefusesSchedule input fault
  pub not_memory : fault.number ≢ MEMORY_REFUSED
  pub unwritten : new ≡ old

-- a beginning of the image's run was written
pub record HasBegunImage (contents : Contents) (name schedule : List ℕ) (limit : ℕ) (old new : Option (List ℕ)) : Type 0 where
  pub image : Sections
  pub loaded : HasLoaded contents name image
  pub given : HasSchedule contents schedule
  pub begins : AppendsBeginning old new (code_text image given.lines limit)

abbrev pub LeavesRun : Contents → List ℕ → List ℕ → ℕ → Status → Option (List ℕ) → Option (List ℕ) → Type 0
LeavesRun contents name schedule limit ImageFault old new =
    HasRefusedImage contents name old new ⊎ HasRunImage contents name schedule limit ImageFault old new
LeavesRun contents name schedule limit ScheduleRefused old new = HasRefusedScheduleOfImage contents name schedule old new
LeavesRun contents name schedule limit NoMemory old new = new ≡ old
LeavesRun contents name schedule limit Failed old new = (new ≡ old) ⊎ HasBegunImage contents name schedule limit old new
LeavesRun contents name schedule limit SourceRefused old new = ⊥
LeavesRun contents name schedule limit status old new = HasRunImage contents name schedule limit status old new

-- ---- `compile`

-- each file has the content that it had
abbrev pub AreFilesKept : Contents → Contents → Type 0
AreFilesKept before after = (name : List ℕ) → after name ≡ before name

-- each file but this one has the content that it had
abbrev pub OthersAreKept : List ℕ → Contents → Contents → Type 0
OthersAreKept name before after = (other : List ℕ) → other ≢ name → after other ≡ before other

-- the source was read, and the other file has the bytes of an image that it compiles to
pub record HasCompiled (before after : Contents) (source name : List ℕ) : Type 0 where
  pub text : List ℕ
  pub source_read : IsContentRead (before source) text
  pub image : Sections
  pub compiles : Compiles text image
  pub written : IsContentRead (after name) (bytes_of image)

-- the source was read, and compiles to an image, whose bytes were there to be written
pub record HasBytesToWrite (before : Contents) (source : List ℕ) : Type 0 where
  pub text : List ℕ
  pub source_read : IsContentRead (before source) text
  pub image : Sections
  pub compiles : Compiles text image

-- Each file has the content that it had; of the image's file nothing is told where its bytes were there and writing them failed.
abbrev pub AreKeptUntilWritten : Contents → Contents → List ℕ → List ℕ → Type 0
AreKeptUntilWritten before after source name = AreFilesKept before after ⊎ (HasBytesToWrite before source × OthersAreKept name before after)

abbrev pub LeavesCompile : Contents → Contents → List ℕ → List ℕ → Status → Option (List ℕ) → Option (List ℕ) → Type 0
LeavesCompile before after source name Done old new = (new ≡ old) × (OthersAreKept name before after × HasCompiled before after source name)
LeavesCompile before after source name SourceRefused old new = AreFilesKept before after × HasRefusedSource before source old new
LeavesCompile before after source name NoMemory old new = (new ≡ old) × AreKeptUntilWritten before after source name
LeavesCompile before after source name Failed old new = (new ≡ old) × AreKeptUntilWritten before after source name
LeavesCompile before after source name status old new = ⊥

-- ---- `search`

-- what the words look for, of what the search was given
abbrev pub looks_for : Wanted → words_of.Wanted
looks_for sights.UnhandledOrWaits = words_of.UnhandledOrWaits
looks_for sights.Unhandled = words_of.Unhandled
looks_for sights.WaitsForever = words_of.WaitsForever
looks_for (sights.Line label) = words_of.LineOf label.now

-- the exit status of a search (docs/FORMATS.md, "Search")
abbrev pub search_status : SearchOutcome → Status
search_status searches.Unhandled = Unhandled
search_status searches.WaitsForever = WaitsForever
search_status searches.Line = LineFound
search_status searches.TooLong = StepLimit
search_status searches.Nothing = Done

-- both were read, and the answer of the search was written, of this status
pub record HasSearched (contents : Contents) (source : List ℕ) (given : Option (List ℕ)) (until : ℤ) (limit : ℕ) (sought : words_of.Wanted) (part : Part)
    (status : Status) (old new : Option (List ℕ)) : Type 0 where
  pub text : List ℕ
  pub source_read : IsContentRead (contents source) text
  pub input : List ℕ
  pub input_read : IsContentRead given input
  pub wanted : Wanted
  pub wanted_is : looks_for wanted ≡ sought
  pub outcome : SearchOutcome
  pub status_is : status ≡ search_status outcome
  pub writes : WritesReport text input part until limit wanted outcome old new

-- both were read, the source compiles, and the set of schedules was refused for its own sake
pub record HasRefusedChoices (contents : Contents) (source : List ℕ) (given : Option (List ℕ)) (until : ℤ) (old new : Option (List ℕ)) : Type 0 where
  pub text : List ℕ
  pub source_read : IsContentRead (contents source) text
  pub input : List ℕ
  pub input_read : IsBeginningRead given CHOICES_BYTES input
  pub compiles : HasImage text
  pub fault : ChoicesFault
  pub refused : RefusesChoicesText until input fault
  pub not_memory : fault.number ≢ MEMORY_REFUSED
  pub unwritten : new ≡ old

-- a beginning of an answer was written
pub record HasBegunReport (contents : Contents) (source : List ℕ) (given : Option (List ℕ)) (until : ℤ) (limit : ℕ) (sought : words_of.Wanted) (part : Part)
    (old new : Option (List ℕ)) : Type 0 where
  pub text : List ℕ
  pub source_read : IsContentRead (contents source) text
  pub input : List ℕ
  pub input_read : IsContentRead given input
  pub wanted : Wanted
  pub wanted_is : looks_for wanted ≡ sought
  pub begins : BeginsReport text input part until limit wanted old new

-- what `search` wrote to standard output, by the exit status
abbrev pub LeavesSearch : Contents → (source : List ℕ) → (given : Option (List ℕ)) → (until : ℤ) → (limit : ℕ) → words_of.Wanted → Part → Status
    → Option (List ℕ) → Option (List ℕ) → Type 0
LeavesSearch contents source given until limit sought part SourceRefused old new = HasRefusedSource contents source old new
LeavesSearch contents source given until limit sought part ScheduleRefused old new = HasRefusedChoices contents source given until old new
LeavesSearch contents source given until limit sought part NoMemory old new = new ≡ old
LeavesSearch contents source given until limit sought part Failed old new =
    (new ≡ old) ⊎ HasBegunReport contents source given until limit sought part old new
LeavesSearch contents source given until limit sought part ImageFault old new = ⊥
LeavesSearch contents source given until limit sought part status old new = HasSearched contents source given until limit sought part status old new

-- ---- `measure` of a set

-- the form in which measures are written
abbrev pub form_of : (is_fields : Bool) → Form
form_of true = tables.Fields
form_of false = tables.Table

-- the exit status, by how many runs the limit on steps has cut (docs/FORMATS.md, "Measures of a set")
abbrev pub measured_status : (cut : ℕ) → Status
measured_status cut = if nat_eq cut 0 then Done else StepLimit

-- what is measured of the runs of a named image on the schedules of a set was written; the limit on steps has cut so many of them
pub record AreMeasuresWritten (is_fields : Bool) (named : Named) (slots : List Slot) (until : ℤ) (limit cut : ℕ) (old new : Option (List ℕ)) : Type 0 where
  pub measures : SetMeasures
  pub measured : IsMeasuredSet named.image slots until limit measures
  pub cut_is : cut ≡ measures.cut
  pub written : Appends old new (set_text (form_of is_fields) named.image (names_alone named.objects.items) slots measures)

-- a beginning of that was written
pub record AreMeasuresBegun (is_fields : Bool) (named : Named) (slots : List Slot) (until : ℤ) (limit : ℕ) (old new : Option (List ℕ)) : Type 0 where
  pub measures : SetMeasures
  pub measured : IsMeasuredSet named.image slots until limit measures
  pub begins : AppendsBeginning old new (set_text (form_of is_fields) named.image (names_alone named.objects.items) slots measures)

-- The source was read and compiled, the second file is a set of schedules, and these are the measures of the image's runs on its schedules, each up to the time
-- and with the limit on its steps.
pub record MeasuresSet (contents : Contents) (source choices : List ℕ) (until : ℤ) (limit : ℕ) : Type 0 where
  pub text : List ℕ
  pub source_read : IsContentRead (contents source) text
  pub image : Sections
  pub compiles : Compiles text image
  pub input : List ℕ
  pub input_read : IsContentRead (contents choices) input
  pub slots : List Slot
  pub are_slots : IsChoicesText until input slots
  pub measures : SetMeasures
  pub measured : IsMeasuredSet image slots until limit measures

-- what is written of them; objects have their names in the source
abbrev pub measures_written : (is_fields : Bool) → (contents : Contents) (source choices : List ℕ) (until : ℤ) (limit : ℕ)
    → MeasuresSet contents source choices until limit → List ℕ
measures_written is_fields contents source choices until limit m = set_text (form_of is_fields) m.image (object_names m.compiles.tree) m.slots m.measures

-- they were written, with this status
pub record HasMeasured (is_fields : Bool) (contents : Contents) (source choices : List ℕ) (until : ℤ) (limit : ℕ) (status : Status)
    (old new : Option (List ℕ)) : Type 0 where
  pub measures : MeasuresSet contents source choices until limit
  pub status_is : status ≡ measured_status measures.measures.cut
  pub written : Appends old new (measures_written is_fields contents source choices until limit measures)

-- a beginning of them was written
pub record HasBegunMeasures (is_fields : Bool) (contents : Contents) (source choices : List ℕ) (until : ℤ) (limit : ℕ)
    (old new : Option (List ℕ)) : Type 0 where
  pub measures : MeasuresSet contents source choices until limit
  pub begins : AppendsBeginning old new (measures_written is_fields contents source choices until limit measures)

-- what `measure` of a set wrote to standard output, by the exit status
abbrev pub LeavesMeasures : (is_fields : Bool) → Contents → (source choices : List ℕ) → (until : ℤ) → (limit : ℕ) → Status → Option (List ℕ)
    → Option (List ℕ) → Type 0
LeavesMeasures is_fields contents source choices until limit SourceRefused old new = HasRefusedSource contents source old new
LeavesMeasures is_fields contents source choices until limit ScheduleRefused old new = HasRefusedChoices contents source (contents choices) until old new
LeavesMeasures is_fields contents source choices until limit NoMemory old new = new ≡ old
LeavesMeasures is_fields contents source choices until limit Failed old new =
    (new ≡ old) ⊎ HasBegunMeasures is_fields contents source choices until limit old new
LeavesMeasures is_fields contents source choices until limit Done old new = HasMeasured is_fields contents source choices until limit Done old new
LeavesMeasures is_fields contents source choices until limit StepLimit old new = HasMeasured is_fields contents source choices until limit StepLimit old new
LeavesMeasures is_fields contents source choices until limit status old new = ⊥

-- ---- all

-- what was written to standard output and to files
abbrev pub LeavesWritten : Command → (standard_input : Option (List ℕ)) → Contents → Contents → Status → Option (List ℕ) → Option (List ℕ) → Type 0
LeavesWritten (CompileText source image) standard_input before after status old new = LeavesCompile before after source image status old new
LeavesWritten (ListImage image) standard_input before after status old new = AreFilesKept before after × LeavesList before image status old new
LeavesWritten (RunImage image schedule limit) standard_input before after status old new = AreFilesKept before after
    × LeavesRun before image schedule limit status old new
LeavesWritten (GoText source schedule limit) standard_input before after status old new = AreFilesKept before after
    × LeavesGo before source (before schedule) limit status old new
LeavesWritten (TraceText view source schedule limit until) standard_input before after status old new = AreFilesKept before after
    × LeavesTrace view before source schedule until limit status old new
LeavesWritten (ExplainFault number) standard_input before after status old new = AreFilesKept before after × LeavesExplain number status old new
LeavesWritten (ExplainText number source) standard_input before after status old new = AreFilesKept before after
    × LeavesExplainText before source number status old new
LeavesWritten (CheckText source) standard_input before after status old new = AreFilesKept before after × (new ≡ old)
LeavesWritten (FormatText source) standard_input before after status old new = AreFilesKept before after
    × LeavesFormat (with_input standard_input before) source status old new
LeavesWritten (LowerText source) standard_input before after status old new = AreFilesKept before after
    × LeavesLowered (with_input standard_input before) source status old new
LeavesWritten (SimulateText source schedule limit until) standard_input before after status old new = AreFilesKept before after
    × LeavesSimulate (with_input standard_input before) source (input_of before schedule) until limit status old new
LeavesWritten (MeasureSet source choices until limit is_fields) standard_input before after status old new = AreFilesKept before after
    × LeavesMeasures is_fields before source choices until limit status old new
LeavesWritten (SearchText source choices until limit sought part is_quiet) standard_input before after status old new = AreFilesKept before after
    × LeavesSearch (with_input standard_input before) source (before choices) until limit sought part status old new
LeavesWritten ShowManual standard_input before after status old new = AreFilesKept before after × LeavesShown MANUAL.now status old new
LeavesWritten ShowVersion standard_input before after status old new = AreFilesKept before after × LeavesShown VERSION.now status old new
LeavesWritten Nothing standard_input before after status old new = AreFilesKept before after × ((new ≡ old) × ((status ≡ Failed) ⊎ (status ≡ NoMemory)))

-- what was written to standard error: of `check` the report, and of other commands what contracts don't say
abbrev pub LeavesReport : Command → (standard_input : Option (List ℕ)) → Contents → Status → Option (List ℕ) → Option (List ℕ) → Type 0
LeavesReport (CheckText source) standard_input before status old new = LeavesCheck (with_input standard_input before) source status old new
LeavesReport work standard_input before status old new = ⊤

-- the number of an exit status
abbrev pub number_of : Status → ℕ
number_of Done = 0
number_of Failed = 1
number_of SourceRefused = 2
number_of Unhandled = 3
number_of WaitsForever = 4
number_of StepLimit = 5
number_of ImageFault = 6
number_of ScheduleRefused = 7
number_of NoMemory = 8
number_of LineFound = 9

-- Words behind `search` and `trace --vcd`, and words of which none begins with `-`, ask for what the table of commands says, or memory was refused as they were
-- read; so do these with `--until` and its word at their end, of `simulate` and `trace`. What other words ask for is tested.
abbrev pub IsAskedFor : List (List ℕ) → Command → Status → Type 0
IsAskedFor words work status = is_told words ≡ true → (work ≡ asked words) ⊎ ((work ≡ Nothing) × (status ≡ NoMemory))

-- the answer is the number of a status, with what it leaves on standard output (old, new) and standard error (old_err, new_err) for what was asked for
pub record AnswersStatus (words : List (List ℕ)) (standard_input : Option (List ℕ)) (before after : Contents) (answer : ℕ)
    (old new old_err new_err : Option (List ℕ)) : Type 0 where
  pub work : Command
  pub status : Status
  pub answer_is : answer ≡ number_of status
  pub asked_for : IsAskedFor words work status
  pub leaves : LeavesWritten work standard_input before after status old new
  pub reports : LeavesReport work standard_input before status old_err new_err
