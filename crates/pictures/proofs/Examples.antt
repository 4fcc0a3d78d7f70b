-- Worked by computation: where things are, times, labels, and what is drawn of single rows of a trace.
use Rattle.std.proofs.Common.{◌≡◌, ◌++◌, [], ◌∷◌, None, codes, pos, refl}
use Rattle.std.specs.Fmt.{digits}
use Rattle.tracing.specs.Traces.{Comes, row}
use Rattle.tracing.specs.declared.event.Event.TheVariants.{ClockMoves, Ends, Enters}
use Rattle.pictures.specs.Frames.{bottom, frame_of, row_number, x_of}
use Rattle.pictures.specs.Front.{spacing_of, time_label}
use Rattle.pictures.specs.Text.{PictureNames, escaped, event_text, milliseconds, object_name, row_text}
use Rattle.pictures.specs.declared.frame.Axis.TheVariants.{Time, Steps}
use Rattle.pictures.specs.declared.frame.Frame.{Frame}
use Rattle.pictures.specs.declared.frame.Row.TheVariants.{Actor, Object, Inputs}

-- two tasks, an object, 100 ms and 500 steps
abbrev frame : Frame
frame = frame_of 2 1 100000 500

middle : x_of frame Time 50000 ≡ 9800
middle = refl

end : x_of frame Steps 500 ≡ 16800
end = refl

lower_edge : bottom frame Steps ≡ 6080
lower_edge = refl

second_task : row_number frame (Actor 1) ≡ 1
second_task = refl

first_object : row_number frame (Object 0) ≡ 2
first_object = refl

handler : row_number frame (Actor 3) ≡ row_number frame Inputs
handler = refl

-- of a longer run the first 2000 steps are drawn, and an axis is never empty
long : (frame_of 2 1 100000 5000).steps ≡ 2000
long = refl

short : (frame_of 2 1 0 0).time ≡ 1
short = refl

tenths : spacing_of 100000 ≡ 10000
tenths = refl

parts : spacing_of 27999 ≡ 2000
parts = refl

ages : spacing_of 9223372036854775807 ≡ 1000000000000000000
ages = refl

time : milliseconds 12045 ≡ codes "12.045"
unfolding digits
time = refl

whole : time_label 30000 ≡ codes "30 ms"
unfolding digits
whole = refl

broken : time_label 500 ≡ codes "0.500 ms"
unfolding digits
broken = refl

label : escaped (codes "a<b&c") ≡ codes "a&lt;b&amp;c"
label = refl

unnamed : object_name (codes "PUMP" ∷ codes "<" ∷ []) 1 ≡ codes "object 1"
unfolding digits
unnamed = refl

abbrev names : PictureNames
names = record { line = record { task = λ t. codes "CONTROL"; exception = λ x. codes "LATE" }; object = λ o. codes "MAILBOX" }

task_ends : event_text frame names 50000 7 (Ends 0) ≡ codes "<path class=\"ended\" d=\"M9800 1950H16800\"><title>CONTROL ends at 50.000 ms, step 7</title></path>\n"
    ++ codes "<path class=\"ended\" d=\"M2996 4890H16800\"><title>CONTROL ends at 50.000 ms, step 7</title></path>\n"
unfolding digits
task_ends = refl

-- after the steps that are drawn, over time alone
late_step : event_text frame names 50000 501 (Enters 0 0 9 None) ≡ codes "<path class=\"entered\" d=\"M9800 2705H16800\"><title>CONTROL enters MAILBOX at 50.000 ms, step 501</title></path>\n"
    ++ codes "<path class=\"used\" d=\"M9800 2590v-120\"><title>CONTROL enters MAILBOX at 50.000 ms, step 501</title></path>\n"
unfolding digits
late_step = refl

instant : event_text frame names 50000 7 ClockMoves ≡ codes "<path class=\"instant\" d=\"M2996 4640V6080\"/>\n"
    ++ codes "<text class=\"instant\" transform=\"translate(2996 4600)rotate(-60)\">50.000</text>\n"
unfolding digits
instant = refl

input : row_text frame names (row (pos 25000) 7 (Comes (record { time = pos 25000; channel = 1; value = pos 80 }))) ≡ codes "<path class=\"input\" d=\"M6300 2850l-50 90h100z\"><title>line 1 80 at 25.000 ms, step 7</title></path>\n"
    ++ codes "<path class=\"input\" d=\"M2996 5790l-50 90h100z\"><title>line 1 80 at 25.000 ms, step 7</title></path>\n"
unfolding digits
input = refl
