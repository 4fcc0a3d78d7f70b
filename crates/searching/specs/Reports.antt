-- What a search writes (docs/FORMATS.md, "Search").
use Rattle.std.specs.Prelude.{ℕ, ◌++◌, ℤ, List, Some, codes}
use Rattle.std.specs.Fmt.{decimal, signed_decimal}
use Rattle.base.specs.declared.schedule.ScheduleLine.{ScheduleLine}
use Rattle.choices.specs.Counting.{number_text}
use Rattle.choices.specs.Parts.{number_of_part}
use Rattle.choices.specs.Slots.{Slot}
use Rattle.choices.specs.declared.part.Part.{Part}
use Rattle.choices.specs.Writing.{schedule_text}
use Rattle.image.specs.Sections.{Sections}
use Rattle.image.specs.Texts.{names_of}
use Rattle.kernel.specs.State.{Unhandled, WaitsForever}
use Rattle.kernel.specs.Text.{Names, last_line, line_text}
use Rattle.searching.specs.Sights.{Sighting, Stopped, Waiting, Written, sight_of}
use Rattle.searching.specs.declared.whole.Searched.{Searched}
use Rattle.searching.specs.declared.whole.Searched.TheVariants as searched

-- what was found, as a run writes it: its last line, or the line
abbrev pub sight_text : Names → Sighting → List ℕ
sight_text names (Stopped x t time) = last_line names (Some (Unhandled x t)) time
sight_text names (Waiting time) = last_line names (Some WaitsForever) time
sight_text names (Written line) = line_text names line

-- a schedule, and what was found under it
abbrev pub found_text : Names → List ScheduleLine → Sighting → List ℕ
found_text names schedule sight = schedule_text schedule ++ codes "found: " ++ sight_text names sight

abbrev pub excess_text : (limit : ℕ) → (time : ℤ) → List ℕ
excess_text limit time = codes "found: more than " ++ decimal limit ++ codes " steps at " ++ signed_decimal time ++ codes "\n"

abbrev pub too_long_text : (limit : ℕ) → List ScheduleLine → (time : ℤ) → List ℕ
too_long_text limit schedule time = schedule_text schedule ++ excess_text limit time

-- the number of choices of the part, and how many worlds the search has kept
abbrev pub nothing_text : Part → List Slot → (worlds : ℕ) → List ℕ
nothing_text part slots worlds = codes "none of " ++ number_text (number_of_part part slots) ++ codes " schedules, " ++ decimal worlds ++ codes " worlds\n"

-- by what the machine has found in the code of an image
abbrev pub report_text : Sections → List Slot → Part → (limit : ℕ) → Searched → List ℕ
report_text i slots part limit (searched.Found schedule finding) = found_text (names_of i) schedule (sight_of i finding)
report_text i slots part limit (searched.Nothing worlds) = nothing_text part slots worlds
report_text i slots part limit (searched.TooLong schedule time) = too_long_text limit schedule time
