-- What is said in words of the last world of a run: which tasks wait, and who was running.
use Rattle.std.specs.Prelude.{◌≡◌, ◌≢◌, ◌<◌, ◌≤◌, ℕ, List, [], ◌∷◌, ◌++◌, Option, Some, None, codes, slice_get}
use Rattle.std.specs.Fmt.{signed_decimal}
use Rattle.compiler.specs.stmt_code.specs.Placing.{place_at}
use Rattle.compiler.specs.stmt_code.specs.declared.tables.PlaceRow.{PlaceRow}
use Rattle.base.specs.declared.schedule.ScheduleLine.{ScheduleLine}
use Rattle.clock.specs.Schedules.{IsScheduleText}
use Rattle.endings.specs.LastSteps.{IsLastWorld}
use Rattle.endings.specs.declared.world_at_end.LastWorld.{LastWorld}
use Rattle.endings.specs.declared.world_at_end.Running.{Running}
use Rattle.endings.specs.declared.world_at_end.Waiting.{Waiting}
use Rattle.image.specs.Sections.{Sections}
use Rattle.image.specs.Texts.{names_of}
use Rattle.source_report.specs.Reports.{place_report}
use Rattle.adarun.specs.Naming.{CompilesNamed}
use Rattle.adarun.specs.declared.naming.ObjectNames.{ObjectNames}

-- the words at a place of the text; where that isn't known, with the file's name alone
abbrev pub report_at : (file text : List ℕ) → Option ℕ → (words : List ℕ) → List ℕ
report_at file text (Some place) words = place_report file text place words
report_at file text None words = file ++ codes ": " ++ words ++ codes "\n"

abbrev pub running_words : Sections → Running → List ℕ
running_words i r = (names_of i).task r.actor ++ codes " was running here"

abbrev pub entry_words : Option (List ℕ) → List ℕ
entry_words None = []
entry_words (Some name) = codes "." ++ name

-- an object's entry: OBJECT.ENTRY
abbrev pub queue_words : Option ObjectNames → List ℕ
queue_words None = []
queue_words (Some names) = names.object ++ entry_words names.entry

abbrev pub waiting_words : Sections → List ObjectNames → Waiting → List ℕ
waiting_words i objects w =
    (names_of i).task w.task ++ codes " waits at " ++ queue_words (slice_get objects w.object) ++ codes " since " ++ signed_decimal w.call.time

abbrev pub still_words : List ℕ
still_words =
    codes "the clock has not moved in the last half of the steps: "
    ++ codes "computing takes no virtual time, so a loop that waits for the clock needs a delay until\n"

module _ (file text : List ℕ) (i : Sections) (objects : List ObjectNames) (places : List PlaceRow) where
  -- at the statement of whose code the next instruction is
  abbrev pub running_report : Option Running → List ℕ
  running_report None = []
  running_report (Some r) = report_at file text (place_at places r.address) (running_words i r)

  -- each at the statement that calls the entry
  abbrev pub waiting_report : List Waiting → List ℕ
  waiting_report [] = []
  waiting_report (w ∷ rest) = report_at file text (place_at places w.call.address) (waiting_words i objects w) ++ waiting_report rest

-- the run of the text's image on the schedule is left so after so many steps
pub record IsLeft (text input : List ℕ) (limit : ℕ) : Type 0 where
  pub image : Sections
  pub objects : List ObjectNames
  pub places : List PlaceRow
  pub compiles : CompilesNamed text image objects places
  pub lines : List ScheduleLine
  pub is_schedule : IsScheduleText input lines
  pub last : LastWorld
  pub is_last : IsLastWorld image lines limit last

-- the tasks that wait in queues
pub record HasWaitReport (file text input : List ℕ) (limit : ℕ) (report : List ℕ) : Type 0 where
  pub left : IsLeft text input limit
  pub report_is : report ≡ waiting_report file text left.image left.objects left.places left.last.waiting.items

-- who was running, and whether the clock has moved in the last half of the steps, if there is such a half
pub record HasLimitReport (file text input : List ℕ) (limit : ℕ) (report : List ℕ) : Type 0 where
  pub left : IsLeft text input limit
  pub moved : left.last.middle ≢ left.last.time → report ≡ running_report file text left.image left.objects left.places left.last.running
  pub few : limit < 2 → report ≡ running_report file text left.image left.objects left.places left.last.running
  pub still : 2 ≤ limit → left.last.middle ≡ left.last.time
      → report ≡ running_report file text left.image left.objects left.places left.last.running ++ still_words
