-- Dumps of images worked by computation: an entry with queue, service and a preemption; a delay and an exception that ends the run; variables; inputs; lines.
use Rattle.std.proofs.Common.{◌≡◌, ℕ, List, [], ◌∷◌, ◌++◌, map, pos, negsuc, ℤ, None, Some, arith, refl}
use Rattle.std.specs.Prelude.{◌<ℤ◌, codes}
use Rattle.std.proofs.lemmas.Int.{ints}
use Rattle.std.specs.Fmt.{digits}
use Rattle.base.specs.Names.{predefined}
use Rattle.base.specs.declared.schedule.ScheduleLine.{ScheduleLine}
use Rattle.image.specs.ObjectTable.{ObjectRow}
use Rattle.image.specs.Sections.{Sections}
use Rattle.image.specs.declared.instruction.Instr.{Instr}
use Rattle.image.specs.declared.instruction.Operation.{Operation}
use Rattle.image.specs.declared.instruction.Operation.TheVariants as op
use Rattle.image.specs.declared.objects.Barrier.TheVariants as barriers
use Rattle.image.specs.declared.subprograms.Kind.{Kind}
use Rattle.image.specs.declared.subprograms.Kind.TheVariants.{EntryBody, ProtectedProcedure, TaskBody}
use Rattle.image.specs.declared.subprograms.Subprogram.{Subprogram}
use Rattle.image.specs.declared.tasks.Task.{Task}
use Rattle.image.specs.Texts.{names_of}
use Rattle.machine.specs.Bounds.{IsBound, at_most}
use Rattle.machine.specs.declared.bound.Cut.TheVariants.{Time}
use Rattle.waveforms.specs.Scopes.{Scopes, Variable}
use Rattle.waveforms.specs.TimeWaves.{time_waves_text}
use Rattle.waveforms.specs.Waves.{declarations_text, label_name, preamble, signal_code, waves_text}
use Rattle.waveforms.specs.declared.axis.Axis.TheVariants as axes

abbrev at : ℕ → Operation → Instr
at depth operation = record { depth = depth; operation = operation }

abbrev sub : Kind → ℕ → ℕ → Subprogram
sub kind end_ stack = record { kind = kind; end_ = end_; parameters = 0; results = 0; locals = 0; stack = stack }

abbrev task : List ℕ → ℕ → ℕ → Task
task name priority n = record { name = name; priority = priority; subprogram = n }

abbrev image_of : List ObjectRow → List Subprogram → List Task → List Instr → Sections
image_of objects subprograms tasks instructions =
    record { exceptions = predefined; labels = codes "got" ∷ []; plain_words = []; objects = objects; subprograms = subprograms; tasks = tasks; rows = []; attachments = []; instructions = instructions }

-- no variables, and an object of this name or none

abbrev none : Scopes
none = record { package_ = None; objects = [] }

abbrev named : List ℕ → Scopes
named name = record { package_ = None; objects = record { name = name; variables = [] } ∷ [] }

-- CONS queues at a closed barrier; MAIN opens it, serves the call, and is preempted by the caller

abbrev door : ObjectRow
door = record { ceiling = 10; entry = Some 1; barrier = barriers.Word 0; words = pos 0 ∷ [] }

abbrev served : Sections
served =
    image_of (door ∷ []) (sub (ProtectedProcedure 0) 3 1 ∷ sub (EntryBody 0) 4 0 ∷ sub TaskBody 8 1 ∷ sub TaskBody 10 0 ∷ []) (task (codes "CONS") 10 2 ∷ task (codes "MAIN") 5 3 ∷ [])
    (at 0 (op.Push (pos 1)) ∷ at 1 (op.StoreObject 0) ∷ at 0 op.Return
    ∷ at 0 op.Return
    ∷ at 0 (op.EntryCall 0) ∷ at 0 (op.Push (pos 7)) ∷ at 1 (op.PutLine 0) ∷ at 0 op.Return
    ∷ at 0 (op.ProtectedCall 0) ∷ at 0 op.Return ∷ [])

served_waves : waves_text served (named (codes "DOOR")) [] (at_most 100)
    ≡ preamble axes.Steps
    ++ codes "$var wire 64 ! time $end\n"
    ++ codes "$scope module CONS $end\n$var wire 3 \" state $end\n$var wire 8 # priority $end\n$upscope $end\n"
    ++ codes "$scope module MAIN $end\n$var wire 3 $ state $end\n$var wire 8 % priority $end\n$upscope $end\n"
    ++ codes "$scope module DOOR $end\n$var wire 8 & inside $end\n$var wire 8 ' queued $end\n$upscope $end\n"
    ++ codes "$scope module lines $end\n$var integer 64 ( \\CONS.got $end\n$upscope $end\n"
    ++ codes "$upscope $end\n$enddefinitions $end\n"
    ++ codes "#0\n$dumpvars\nb0 !\nb1 \"\nb1010 #\nb0 $\nb101 %\nb0 &\nb0 '\nbx (\n$end\n"
    ++ codes "#1\nb11 \"\nb1 $\nb1 '\n"
    ++ codes "#2\nb1010 %\nb10 &\n"
    ++ codes "#5\nb100 \"\nb0 '\n"
    ++ codes "#6\nb1 \"\nb0 $\nb101 %\nb0 &\n"
    ++ codes "#8\nb111 (\n"
    ++ codes "#9\nb101 \"\nb1 $\n"
    ++ codes "#10\nb101 $\n"
    ++ codes "#11\n$comment ended at 0\n$end\n"
unfolding digits
served_waves = refl

-- MAIN sleeps alone, so the clock moves within its step; an exception ends the run, or the limit cuts it before

abbrev alone : Sections
alone =
    image_of (door ∷ []) (sub TaskBody 6 2 ∷ sub (EntryBody 0) 7 0 ∷ []) (task (codes "MAIN") 5 0 ∷ [])
    (at 0 (op.Push (pos 500)) ∷ at 1 op.DelayUntil ∷ at 0 (op.Push (pos 1)) ∷ at 1 (op.Push (pos 0)) ∷ at 2 op.Divide ∷ at 1 op.Return ∷ at 0 op.Return ∷ [])

abbrev until_it_wakes : List ℕ
until_it_wakes =
    preamble axes.Steps
    ++ codes "$var wire 64 ! time $end\n"
    ++ codes "$scope module MAIN $end\n$var wire 3 \" state $end\n$var wire 8 # priority $end\n$upscope $end\n"
    ++ codes "$scope module OBJECT_0 $end\n$var wire 8 $ inside $end\n$var wire 8 % queued $end\n$upscope $end\n"
    ++ codes "$upscope $end\n$enddefinitions $end\n"
    ++ codes "#0\n$dumpvars\nb0 !\nb1 \"\nb101 #\nb0 $\nb0 %\n$end\n"
    ++ codes "#2\nb111110100 !\n"

alone_waves : waves_text alone none [] (at_most 100) ≡ until_it_wakes ++ codes "#5\nb110 \"\n#6\n$comment unhandled CONSTRAINT_ERROR in MAIN at 500\n$end\n"
unfolding digits
alone_waves = refl

-- a name that isn't one of Ada's gives way to the number
alone_cut : waves_text alone (named (codes "a b")) [] (at_most 3) ≡ until_it_wakes ++ codes "#4\n$comment step limit at 500\n$end\n"
unfolding digits
alone_cut = refl

-- before it would sleep past the time, which it comes to at 500
alone_is_cut : IsBound alone [] (Some (pos 499)) 100 (record { steps = 1; cut = Time })
alone_is_cut =
    let past : pos 499 <ℤ pos 500 = grind (arith, ints) in
    record { earlier = omega arith; within = λ natural. natural; passes = past }

alone_timed : waves_text alone (named (codes "a b")) [] (record { steps = 1; cut = Time })
    ≡ preamble axes.Steps
    ++ codes "$var wire 64 ! time $end\n"
    ++ codes "$scope module MAIN $end\n$var wire 3 \" state $end\n$var wire 8 # priority $end\n$upscope $end\n"
    ++ codes "$scope module OBJECT_0 $end\n$var wire 8 $ inside $end\n$var wire 8 % queued $end\n$upscope $end\n"
    ++ codes "$upscope $end\n$enddefinitions $end\n"
    ++ codes "#0\n$dumpvars\nb0 !\nb1 \"\nb101 #\nb0 $\nb0 %\n$end\n"
    ++ codes "#2\n$comment time limit at 0\n$end\n"
unfolding digits
alone_timed = refl

-- Over virtual time: it sleeps from 0 to 500, and is left there by the exception, or runs where the limit cuts it

alone_in_time : time_waves_text alone none [] (at_most 100)
    ≡ declarations_text axes.Time none [] [] alone
    ++ codes "#0\n$dumpvars\nb0 !\nb10 \"\nb101 #\nb0 $\nb0 %\n$end\n"
    ++ codes "#500\nb111110100 !\nb110 \"\n"
    ++ codes "$comment unhandled CONSTRAINT_ERROR in MAIN at 500\n$end\n"
unfolding digits
alone_in_time = refl

alone_cut_in_time : time_waves_text alone none [] (at_most 3)
    ≡ declarations_text axes.Time none [] [] alone
    ++ codes "#0\n$dumpvars\nb0 !\nb10 \"\nb101 #\nb0 $\nb0 %\n$end\n"
    ++ codes "#500\nb111110100 !\nb1 \"\n"
    ++ codes "$comment step limit at 500\n$end\n"
unfolding digits
alone_cut_in_time = refl

-- of the time 499 there is the first instant alone, which the cut leaves before its end
alone_timed_in_time : time_waves_text alone none [] (record { steps = 1; cut = Time })
    ≡ declarations_text axes.Time none [] [] alone ++ codes "#0\n$dumpvars\nb0 !\nb1 \"\nb101 #\nb0 $\nb0 %\n$end\n" ++ codes "$comment time limit at 0\n$end\n"
unfolding digits
alone_timed_in_time = refl

-- CONS waits in the queue until MAIN, which sleeps from 0 to 500, opens the barrier

abbrev waits : Sections
waits =
    image_of (door ∷ []) (sub (ProtectedProcedure 0) 3 1 ∷ sub (EntryBody 0) 4 0 ∷ sub TaskBody 8 1 ∷ sub TaskBody 12 1 ∷ []) (task (codes "CONS") 10 2 ∷ task (codes "MAIN") 5 3 ∷ [])
    (at 0 (op.Push (pos 1)) ∷ at 1 (op.StoreObject 0) ∷ at 0 op.Return
    ∷ at 0 op.Return
    ∷ at 0 (op.EntryCall 0) ∷ at 0 (op.Push (pos 7)) ∷ at 1 (op.PutLine 0) ∷ at 0 op.Return
    ∷ at 0 (op.Push (pos 500)) ∷ at 1 op.DelayUntil ∷ at 0 (op.ProtectedCall 0) ∷ at 0 op.Return ∷ [])

waits_in_time : time_waves_text waits (named (codes "DOOR")) [] (at_most 100)
    ≡ declarations_text axes.Time (named (codes "DOOR")) [] (record { task = 0; label = codes "got" } ∷ []) waits
    ++ codes "#0\n$dumpvars\nb0 !\nb11 \"\nb1010 #\nb10 $\nb101 %\nb0 &\nb1 '\nbx (\n$end\n"
    ++ codes "#500\nb111110100 !\nb101 \"\nb101 $\nb0 '\nb111 (\n"
    ++ codes "$comment ended at 500\n$end\n"
unfolding digits
waits_in_time = refl

-- MAIN stores -5 in the second of two words before it sleeps from 0 to 500, and 1 in the first one after that

abbrev stores : Sections
stores =
    record (image_of (door ∷ []) (sub TaskBody 7 1 ∷ sub (EntryBody 0) 8 0 ∷ []) (task (codes "MAIN") 5 0 ∷ [])
    (at 0 (op.Push (negsuc 4)) ∷ at 1 (op.StorePlain 1) ∷ at 0 (op.Push (pos 500)) ∷ at 1 op.DelayUntil ∷ at 0 (op.Push (pos 1)) ∷ at 1 (op.StorePlain 0) ∷ at 0 op.Return
    ∷ at 0 op.Return ∷ [])) { plain_words = pos 3 ∷ negsuc 0 ∷ [] }

abbrev variable : List ℕ → ℕ → Variable
variable name word = record { name = name; word = word }

-- of the package two variables, the second one again by a name that would break the file, and one whose word isn't there; and a component
abbrev stored : Scopes
stored = record {
  package_ = Some (record {
    name = codes "APP";
    variables = variable (codes "LEVEL") 0 ∷ variable (codes "T(-1).Y") 1 ∷ variable (codes "a b") 1 ∷ variable (codes "GONE") 2 ∷ [];
  });
  objects = record { name = codes "DOOR"; variables = variable (codes "IS_OPEN") 0 ∷ [] } ∷ [];
}

abbrev stored_declarations : List ℕ
stored_declarations =
    codes "$var wire 64 ! time $end\n"
    ++ codes "$scope module MAIN $end\n$var wire 3 \" state $end\n$var wire 8 # priority $end\n$upscope $end\n"
    ++ codes "$scope module APP $end\n$var integer 64 $ LEVEL $end\n$var integer 64 % \\T(-1).Y $end\n"
    ++ codes "$var integer 64 & WORD_1 $end\n$var integer 64 ' GONE $end\n$upscope $end\n"
    ++ codes "$scope module DOOR $end\n$var wire 8 ( inside $end\n$var wire 8 ) queued $end\n$var integer 64 * IS_OPEN $end\n$upscope $end\n"
    ++ codes "$upscope $end\n$enddefinitions $end\n"

-- -1 and -5 in 64 bits
abbrev ones : List ℕ
ones = codes "1111111111111111111111111111111111111111111111111111111111111111"

abbrev minus_five : List ℕ
minus_five = codes "1111111111111111111111111111111111111111111111111111111111111011"

stores_waves : waves_text stores stored [] (at_most 100)
    ≡ preamble axes.Steps
    ++ stored_declarations
    ++ codes "#0\n$dumpvars\nb0 !\nb1 \"\nb101 #\nb11 $\nb" ++ ones ++ codes " %\nb" ++ ones ++ codes " &\nb0 '\nb0 (\nb0 )\nb0 *\n$end\n"
    ++ codes "#2\nb" ++ minus_five ++ codes " %\nb" ++ minus_five ++ codes " &\n"
    ++ codes "#4\nb111110100 !\n"
    ++ codes "#6\nb1 $\n"
    ++ codes "#7\nb101 \"\n"
    ++ codes "#8\n$comment ended at 500\n$end\n"
unfolding digits
stores_waves = refl

-- at the end of the first instant there is what was stored before the clock moved
stores_in_time : time_waves_text stores stored [] (at_most 100)
    ≡ preamble axes.Time
    ++ stored_declarations
    ++ codes "#0\n$dumpvars\nb0 !\nb10 \"\nb101 #\nb11 $\nb" ++ minus_five ++ codes " %\nb" ++ minus_five ++ codes " &\nb0 '\nb0 (\nb0 )\nb0 *\n$end\n"
    ++ codes "#500\nb111110100 !\nb101 \"\nb1 $\n"
    ++ codes "$comment ended at 500\n$end\n"
unfolding digits
stores_in_time = refl

-- Inputs: channel 2 has lines at 0 and at 500, channel 5 one at 300, at which the clock is not: MAIN sleeps from 0 to 500

abbrev heard : ℕ → ℕ → ℤ → ScheduleLine
heard time channel value = record { time = pos time; channel = channel; value = value }

abbrev two_channels : List ScheduleLine
two_channels = heard 0 2 (pos 7) ∷ heard 300 5 (negsuc 0) ∷ heard 500 2 (pos 8) ∷ []

abbrev two_inputs : List ℕ
two_inputs =
    codes "$var wire 64 ! time $end\n"
    ++ codes "$scope module MAIN $end\n$var wire 3 \" state $end\n$var wire 8 # priority $end\n$upscope $end\n"
    ++ codes "$scope module OBJECT_0 $end\n$var wire 8 $ inside $end\n$var wire 8 % queued $end\n$upscope $end\n"
    ++ codes "$scope module inputs $end\n$var integer 64 & CHANNEL_2 $end\n$var integer 64 ' CHANNEL_5 $end\n$upscope $end\n"
    ++ codes "$upscope $end\n$enddefinitions $end\n"

inputs_waves : waves_text alone none two_channels (at_most 100)
    ≡ preamble axes.Steps
    ++ two_inputs
    ++ codes "#0\n$dumpvars\nb0 !\nb1 \"\nb101 #\nb0 $\nb0 %\nb111 &\nb0 '\n$end\n"
    ++ codes "#2\nb111110100 !\nb1000 &\nb" ++ ones ++ codes " '\n"
    ++ codes "#5\nb110 \"\n#6\n$comment unhandled CONSTRAINT_ERROR in MAIN at 500\n$end\n"
unfolding digits
inputs_waves = refl

-- the value of the line at 300 is shown at 500
inputs_in_time : time_waves_text alone none two_channels (at_most 100)
    ≡ preamble axes.Time
    ++ two_inputs
    ++ codes "#0\n$dumpvars\nb0 !\nb10 \"\nb101 #\nb0 $\nb0 %\nb111 &\nb0 '\n$end\n"
    ++ codes "#500\nb111110100 !\nb110 \"\nb1000 &\nb" ++ ones ++ codes " '\n"
    ++ codes "$comment unhandled CONSTRAINT_ERROR in MAIN at 500\n$end\n"
unfolding digits
inputs_in_time = refl

-- Lines: CONS puts 7 and -1 under the first label and 9 under the second, and then MAIN puts 7 under the first label twice

abbrev says : Sections
says =
    record (image_of [] (sub TaskBody 7 1 ∷ sub TaskBody 12 1 ∷ []) (task (codes "CONS") 10 0 ∷ task (codes "MAIN") 5 1 ∷ [])
    (at 0 (op.Push (pos 7)) ∷ at 1 (op.PutLine 0) ∷ at 0 (op.Push (negsuc 0)) ∷ at 1 (op.PutLine 0) ∷ at 0 (op.Push (pos 9)) ∷ at 1 (op.PutLine 1) ∷ at 0 op.Return
    ∷ at 0 (op.Push (pos 7)) ∷ at 1 (op.PutLine 0) ∷ at 0 (op.Push (pos 7)) ∷ at 1 (op.PutLine 0) ∷ at 0 op.Return ∷ [])) { labels = codes "got" ∷ codes "it(1)" ∷ [] }

abbrev two_tasks : List ℕ
two_tasks =
    codes "$var wire 64 ! time $end\n"
    ++ codes "$scope module CONS $end\n$var wire 3 \" state $end\n$var wire 8 # priority $end\n$upscope $end\n"
    ++ codes "$scope module MAIN $end\n$var wire 3 $ state $end\n$var wire 8 % priority $end\n$upscope $end\n"

abbrev lines_of_cons : List ℕ
lines_of_cons = codes "$scope module lines $end\n$var integer 64 & \\CONS.got $end\n$var integer 64 ' \\CONS.it(1) $end\n"

says_waves : waves_text says none [] (at_most 100)
    ≡ preamble axes.Steps
    ++ two_tasks
    ++ lines_of_cons
    ++ codes "$var integer 64 ( \\MAIN.got $end\n$upscope $end\n$upscope $end\n$enddefinitions $end\n"
    ++ codes "#0\n$dumpvars\nb0 !\nb1 \"\nb1010 #\nb0 $\nb101 %\nbx &\nbx '\nbx (\n$end\n"
    ++ codes "#2\nb111 &\n"
    ++ codes "#4\nb" ++ ones ++ codes " &\n"
    ++ codes "#6\nb1001 '\n"
    ++ codes "#7\nb101 \"\nb1 $\n"
    ++ codes "#9\nb111 (\n"
    ++ codes "#12\nb101 $\n"
    ++ codes "#13\n$comment ended at 0\n$end\n"
unfolding digits
says_waves = refl

-- MAIN has no signal where the limit cuts the run before its first line
says_cut : waves_text says none [] (at_most 8)
    ≡ preamble axes.Steps
    ++ two_tasks
    ++ lines_of_cons
    ++ codes "$upscope $end\n$upscope $end\n$enddefinitions $end\n"
    ++ codes "#0\n$dumpvars\nb0 !\nb1 \"\nb1010 #\nb0 $\nb101 %\nbx &\nbx '\n$end\n"
    ++ codes "#2\nb111 &\n"
    ++ codes "#4\nb" ++ ones ++ codes " &\n"
    ++ codes "#6\nb1001 '\n"
    ++ codes "#7\nb101 \"\nb1 $\n"
    ++ codes "#9\n$comment step limit at 0\n$end\n"
unfolding digits
says_cut = refl

-- the one instant has the values that were put last
says_in_time : time_waves_text says none [] (at_most 100)
    ≡ preamble axes.Time
    ++ two_tasks
    ++ lines_of_cons
    ++ codes "$var integer 64 ( \\MAIN.got $end\n$upscope $end\n$upscope $end\n$enddefinitions $end\n"
    ++ codes "#0\n$dumpvars\nb0 !\nb101 \"\nb1010 #\nb101 $\nb101 %\nb" ++ ones ++ codes " &\nb1001 '\nb111 (\n$end\n"
    ++ codes "$comment ended at 0\n$end\n"
unfolding digits
says_in_time = refl

-- a line of the handler of the interrupt of channel 2, where there are two tasks
handler_named : label_name (names_of says).task (record { task = 4; label = codes "got" }) ≡ codes "INTERRUPT_2.got"
unfolding digits
handler_named = refl

-- the codes of the last signal with one character, of the first and the last with two, and of the greatest number
codes_of_signals : map signal_code (93 ∷ 94 ∷ 8835 ∷ 8836 ∷ []) ≡ codes "~" ∷ codes "\"!" ∷ codes "~~" ∷ codes "\"!!" ∷ []
codes_of_signals = refl
