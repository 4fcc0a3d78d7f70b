-- Charts worked by computation: scales, axes, and the rows of a task, of an object and of inputs.
use Rattle.std.proofs.Common.{◌≡◌, ℕ, List, [], ◌∷◌, pos, None, refl}
use Rattle.std.specs.Prelude.{codes, map}
use Rattle.std.specs.Fmt.{digits}
use Rattle.base.specs.declared.schedule.ScheduleLine.{ScheduleLine}
use Rattle.tracing.specs.declared.event.Event.TheVariants.{Ready, Preempted, Waits, Late, Wakes, Queues, Ends}
use Rattle.charts.specs.Scales.{scale_of}
use Rattle.charts.specs.Signs.{Cells, nothing_seen, of_actor, row_number, with_events, with_note}
use Rattle.charts.specs.Text.{axis, inputs_text, row_text}
use Rattle.charts.specs.declared.cell.Sign.TheVariants as signs
use Rattle.charts.specs.declared.rows.Row.TheVariants.{Object}

-- the last column of 120 has the microseconds from 119 on, and 120 come into columns of two
scales : map scale_of (pos 0 ∷ pos 119 ∷ pos 120 ∷ pos 239 ∷ pos 240 ∷ pos 600 ∷ pos 45000 ∷ pos 119999 ∷ pos 120000 ∷ pos 9223372036854775807 ∷ [])
    ≡ 1 ∷ 1 ∷ 2 ∷ 2 ∷ 5 ∷ 10 ∷ 500 ∷ 1000 ∷ 2000 ∷ 100000000000000000 ∷ []
scales = refl

axis_in_us : axis 50 3 ≡ codes "|0 us     |500 us   |1000 us"
unfolding digits
axis_in_us = refl

axis_in_ms : axis 100 3 ≡ codes "|0 ms     |1 ms     |2 ms"
unfolding digits
axis_in_ms = refl

axis_in_s : axis 100000 3 ≡ codes "|0 s      |1 s      |2 s"
unfolding digits
axis_in_s = refl

-- what comes after a long time stands further to the right
axis_of_ages : axis 1000000000000000 3 ≡ codes "|0 s      |10000000000 s|20000000000 s"
unfolding digits
axis_of_ages = refl

-- a task runs and waits for a time, is preempted and waits in a queue, and is late and ends
abbrev seen : Cells
seen =
    with_events 7 (Late 1 20 None ∷ Ends 1 ∷ [])
    (with_events 4 (Wakes 1 ∷ Preempted 1 2 ∷ Queues 1 0 None ∷ [])
    (with_events 0 (Ready 1 ∷ Waits 1 (pos 4) None ∷ [])
    (with_note 0 (of_actor 1 signs.Acts) nothing_seen)))

task_row : row_text (codes "#") (seen 1) 9 (codes "T") ≡ codes "#...PqqL  T\n"
task_row = refl

object_row : row_text (codes "x") (seen (row_number (Object 0))) 9 (codes "DOOR") ≡ codes "    xqqqq DOOR\n"
object_row = refl

-- an input after the last time is not shown
abbrev line : ℕ → ScheduleLine
line time = record { time = pos time; channel = 1; value = pos 7 }

input_row : inputs_text (line 0 ∷ line 5 ∷ line 12 ∷ []) 2 (pos 11) 6 ≡ codes "^ ^    inputs\n"
input_row = refl
