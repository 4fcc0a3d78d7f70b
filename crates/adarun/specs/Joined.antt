-- What the run of an image has to do with a source, where the image went through bytes.
use Rattle.std.specs.Prelude.{ℕ, List, Option}
use Rattle.std.specs.Io.KnownBytes.{Appends}
use Rattle.base.specs.declared.schedule.ScheduleLine.{ScheduleLine}
use Rattle.clock.specs.Schedules.{IsScheduleText}
use Rattle.image.specs.Sections.{Sections}
use Rattle.image.specs.Code.{code, code_text}
use Rattle.image_format.specs.Bytes.{bytes_of}
use Rattle.image_loading.specs.Loaded.{IsLoaded}
use Rattle.machine.specs.Stands.{EndsBy}
use Rattle.machine.specs.declared.reports.Outcome.{Outcome}
use Rattle.adarun.specs.Accepted.{Compiles}
use Rattle.adarun.specs.Headline.{Runs}

-- whatever is loaded from the bytes of an image that a text compiles to, its run is a run of the text: what it has written means what the text means
abbrev pub RunsAsItsSource : Sections → Type 0
RunsAsItsSource image =
    (loaded : Sections) (text input : List ℕ) (schedule : List ScheduleLine) (limit : ℕ) (outcome : Outcome) (old new : Option (List ℕ))
    → IsLoaded (bytes_of image) loaded
    → Compiles text image
    → IsScheduleText input schedule
    → Appends old new (code_text loaded schedule limit)
    → EndsBy outcome (code loaded schedule limit)
    → Runs text input limit outcome old new
