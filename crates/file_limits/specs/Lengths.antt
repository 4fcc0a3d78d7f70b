-- The lengths of what is accepted: source texts, schedules and sets of schedules.
use Rattle.std.specs.Prelude.{ℕ, ◌<◌, ℤ, List, length}
use Rattle.base.specs.declared.schedule.ScheduleLine.{ScheduleLine}
use Rattle.choices.specs.Sets.{IsChoicesText}
use Rattle.choices.specs.Slots.{Slot}
use Rattle.clock.specs.Schedules.{IsScheduleText}
use Rattle.file_limits.specs.declared.TheConstants.{CHOICES_BYTES, SCHEDULE_BYTES, SOURCE_BYTES}
use Rattle.lexer.specs.Spelling.{Spells}
use Rattle.lexer.specs.declared.token.Token.{Token}

abbrev pub SourcesEnd : Type 0
SourcesEnd = (text : List ℕ) (tokens : List Token) → Spells text tokens → length text < SOURCE_BYTES

abbrev pub SchedulesEnd : Type 0
SchedulesEnd = (text : List ℕ) (lines : List ScheduleLine) → IsScheduleText text lines → length text < SCHEDULE_BYTES

abbrev pub ChoicesEnd : Type 0
ChoicesEnd = (until : ℤ) (text : List ℕ) (slots : List Slot) → IsChoicesText until text slots → length text < CHOICES_BYTES
