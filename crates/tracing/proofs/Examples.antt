-- Traces of images worked by computation: a preemption, delays, an entry with queue and service, handlers of interrupts, exceptions, and what is refused.
use Rattle.std.proofs.Common.{◌≡◌, ℕ, List, [], ◌∷◌, ◌++◌, pos, None, Some, refl}
use Rattle.std.specs.Prelude.{codes, if◌then◌else◌, nat_eq}
use Rattle.std.specs.Fmt.{digits}
use Rattle.base.specs.Names.{predefined}
use Rattle.base.specs.declared.schedule.ScheduleLine.{ScheduleLine}
use Rattle.image.specs.ObjectTable.{ObjectRow}
use Rattle.image.specs.Sections.{Sections}
use Rattle.image.specs.declared.instruction.Instr.{Instr}
use Rattle.image.specs.declared.instruction.Operation.{Operation}
use Rattle.image.specs.declared.instruction.Operation.TheVariants as op
use Rattle.image.specs.declared.objects.Barrier.TheVariants as barriers
use Rattle.image.specs.declared.subprograms.Kind.{Kind}
use Rattle.image.specs.declared.subprograms.Kind.TheVariants.{EntryBody, ProtectedProcedure, TaskBody}
use Rattle.image.specs.declared.subprograms.Subprogram.{Subprogram}
use Rattle.image.specs.declared.tasks.Task.{Task}
use Rattle.machine.specs.Bounds.{at_most}
use Rattle.tracing.specs.Known.{Known}
use Rattle.tracing.specs.Traces.{trace_text}

-- nothing is known of the source
abbrev nowhere : Known
nowhere = record { origin = λ address. None; operation = λ address. None }

abbrev at : ℕ → Operation → Instr
at depth operation = record { depth = depth; operation = operation }

abbrev sub : Kind → ℕ → ℕ → Subprogram
sub kind end_ stack = record { kind = kind; end_ = end_; parameters = 0; results = 0; locals = 0; stack = stack }

abbrev task : List ℕ → ℕ → ℕ → Task
task name priority n = record { name = name; priority = priority; subprogram = n }

abbrev image_of : List ObjectRow → List Subprogram → List Task → List Instr → Sections
image_of objects subprograms tasks instructions =
    record { exceptions = predefined; labels = codes "got" ∷ []; plain_words = []; objects = objects; subprograms = subprograms; tasks = tasks; rows = []; attachments = []; instructions = instructions }

abbrev delay_until : ℕ → List Instr
delay_until time = at 0 (op.Push (pos time)) ∷ at 1 op.DelayUntil ∷ []

-- CONS queues at a closed barrier; MAIN opens it, serves the call, and is preempted by the caller

abbrev door : ObjectRow
door = record { ceiling = 10; entry = Some 1; barrier = barriers.Word 0; words = pos 0 ∷ [] }

abbrev served : Sections
served =
    image_of (door ∷ []) (sub (ProtectedProcedure 0) 3 1 ∷ sub (EntryBody 0) 4 0 ∷ sub TaskBody 8 1 ∷ sub TaskBody 10 0 ∷ []) (task (codes "CONS") 10 2 ∷ task (codes "MAIN") 5 3 ∷ [])
    (at 0 (op.Push (pos 1)) ∷ at 1 (op.StoreObject 0) ∷ at 0 op.Return
    ∷ at 0 op.Return
    ∷ at 0 (op.EntryCall 0) ∷ at 0 (op.Push (pos 7)) ∷ at 1 (op.PutLine 0) ∷ at 0 op.Return
    ∷ at 0 (op.ProtectedCall 0) ∷ at 0 op.Return ∷ [])

served_trace : trace_text served (codes "DOOR" ∷ []) nowhere [] (at_most 100)
    ≡ codes "0 0 CONS is ready\n0 0 MAIN is ready\n0 0 CONS runs at 10\n"
    ++ codes "0 1 CONS queues at DOOR\n0 1 MAIN runs at 5\n"
    ++ codes "0 2 MAIN enters DOOR at 10\n"
    ++ codes "0 5 CONS is served at DOOR by MAIN\n"
    ++ codes "0 6 MAIN leaves DOOR at 5\n0 6 CONS has been served at DOOR\n0 6 CONS has waited 0 at DOOR\n0 6 MAIN is preempted by CONS\n0 6 CONS runs at 10\n"
    ++ codes "0 8 CONS writes 0 CONS got 7\n"
    ++ codes "0 9 CONS ends\n0 9 MAIN runs at 5\n"
    ++ codes "0 10 MAIN ends\nended at 0\n"
unfolding digits
served_trace = refl

-- Two tasks sleep until the same time; the clock moves once both do

abbrev sleepers : Sections
sleepers =
    image_of [] (sub TaskBody 3 1 ∷ sub TaskBody 6 1 ∷ []) (task (codes "T") 9 0 ∷ task (codes "MAIN") 5 1 ∷ [])
    (delay_until 1000 ++ at 0 op.Return ∷ delay_until 1000 ++ at 0 op.Return ∷ [])

abbrev until_both_sleep : List ℕ
until_both_sleep =
    codes "0 0 T is ready\n0 0 MAIN is ready\n0 0 T runs at 9\n"
    ++ codes "0 2 T waits until 1000\n0 2 MAIN runs at 5\n"
    ++ codes "0 4 MAIN waits until 1000\n1000 4 - the clock moves\n1000 4 T wakes\n1000 4 MAIN wakes\n1000 4 T runs at 9\n"

sleepers_trace : trace_text sleepers [] nowhere [] (at_most 100) ≡ until_both_sleep ++ codes "1000 5 T ends\n1000 5 MAIN runs at 5\n1000 6 MAIN ends\nended at 1000\n"
unfolding digits
sleepers_trace = refl

sleepers_cut : trace_text sleepers [] nowhere [] (at_most 4) ≡ until_both_sleep ++ codes "step limit at 1000\n"
unfolding digits
sleepers_cut = refl

-- A task that sleeps alone wakes within its own step; an exception ends the run

abbrev alone : Sections
alone =
    image_of [] (sub TaskBody 6 2 ∷ []) (task (codes "MAIN") 5 0 ∷ [])
    (delay_until 500 ++ at 0 (op.Push (pos 1)) ∷ at 1 (op.Push (pos 0)) ∷ at 2 op.Divide ∷ at 1 op.Return ∷ [])

alone_trace : trace_text alone [] nowhere [] (at_most 100)
    ≡ codes "0 0 MAIN is ready\n0 0 MAIN runs at 5\n"
    ++ codes "0 2 MAIN waits until 500\n500 2 - the clock moves\n500 2 MAIN wakes\n500 2 MAIN runs at 5\n"
    ++ codes "500 5 MAIN raises CONSTRAINT_ERROR\n500 5 MAIN is left by CONSTRAINT_ERROR\nunhandled CONSTRAINT_ERROR in MAIN at 500\n"
unfolding digits
alone_trace = refl

-- A `delay until` that is due puts its task behind those of its priority

abbrev due : Sections
due =
    image_of [] (sub TaskBody 3 1 ∷ sub TaskBody 4 0 ∷ []) (task (codes "T") 5 0 ∷ task (codes "MAIN") 5 1 ∷ [])
    (delay_until 0 ++ at 0 op.Return ∷ at 0 op.Return ∷ [])

due_trace : trace_text due [] nowhere [] (at_most 100)
    ≡ codes "0 0 T is ready\n0 0 MAIN is ready\n0 0 T runs at 5\n"
    ++ codes "0 2 T gives way to MAIN\n0 2 MAIN runs at 5\n0 3 MAIN ends\n0 3 T runs at 5\n0 4 T ends\nended at 0\n"
unfolding digits
due_trace = refl

-- Three interrupts of one channel while the only task sleeps: the end of a handler delivers the next one of its time, and lets the clock move

abbrev latch : ObjectRow
latch = record { ceiling = 31; entry = None; barrier = barriers.Closed; words = [] }

abbrev interrupted : Sections
interrupted = record
    (image_of (latch ∷ []) (sub (ProtectedProcedure 0) 3 1 ∷ sub TaskBody 6 1 ∷ []) (task (codes "MAIN") 5 1 ∷ [])
    (at 0 (op.Push (pos 7)) ∷ at 1 (op.PutLine 0) ∷ at 0 op.Return ∷ delay_until 6 ++ at 0 op.Return ∷ []))
    { attachments = record { channel = 1; subprogram = 0 } ∷ [] }

abbrev line_at : ℕ → ScheduleLine
line_at time = record { time = pos time; channel = 1; value = pos 0 }

interrupted_trace : trace_text interrupted (codes "LATCH" ∷ []) nowhere (line_at 3 ∷ line_at 3 ∷ line_at 5 ∷ []) (at_most 100)
    ≡ codes "0 0 MAIN is ready\n0 0 MAIN runs at 5\n"
    ++ codes "0 2 MAIN waits until 6\n3 2 - line 1 0\n3 2 - line 1 0\n3 2 - the clock moves\n3 2 INTERRUPT_1 runs at 31\n"
    ++ codes "3 4 INTERRUPT_1 writes 3 INTERRUPT_1 got 7\n3 5 INTERRUPT_1 leaves LATCH at 31\n3 5 INTERRUPT_1 ends\n3 5 INTERRUPT_1 runs at 31\n"
    ++ codes "3 7 INTERRUPT_1 writes 3 INTERRUPT_1 got 7\n3 8 INTERRUPT_1 leaves LATCH at 31\n3 8 INTERRUPT_1 ends\n"
    ++ codes "5 8 - line 1 0\n5 8 - the clock moves\n5 8 INTERRUPT_1 runs at 31\n"
    ++ codes "5 10 INTERRUPT_1 writes 5 INTERRUPT_1 got 7\n5 11 INTERRUPT_1 leaves LATCH at 31\n5 11 INTERRUPT_1 ends\n"
    ++ codes "6 11 - the clock moves\n6 11 MAIN wakes\n6 11 MAIN runs at 5\n6 12 MAIN ends\nended at 6\n"
unfolding digits
interrupted_trace = refl

-- An exception is raised in an action, and again at the call once the action is over

-- where two instructions come from, the division and the call, and whom the call calls
abbrev marked : Known
marked = record {
  origin = λ address.
      if nat_eq address 2 then Some (record { line = 3; column = 7 }) else if nat_eq address 4 then Some (record { line = 12; column = 10 }) else None;
  operation = λ address. if nat_eq address 4 then Some (codes "SHUT") else None;
}

abbrev divides : Sections
divides =
    image_of (door ∷ []) (sub (ProtectedProcedure 0) 4 2 ∷ sub TaskBody 6 0 ∷ []) (task (codes "MAIN") 5 1 ∷ [])
    (at 0 (op.Push (pos 1)) ∷ at 1 (op.Push (pos 0)) ∷ at 2 op.Divide ∷ at 1 op.Return ∷ at 0 (op.ProtectedCall 0) ∷ at 0 op.Return ∷ [])

divides_trace : trace_text divides (codes "DOOR" ∷ []) marked [] (at_most 100)
    ≡ codes "0 0 MAIN is ready\n0 0 MAIN runs at 5\n0 1 MAIN enters DOOR.SHUT at 10 at 12:10\n"
    ++ codes "0 4 MAIN raises CONSTRAINT_ERROR at 3:7\n0 4 MAIN leaves DOOR at 5 at 3:7\n"
    ++ codes "0 5 MAIN raises CONSTRAINT_ERROR at its call at 12:10\n0 5 MAIN is left by CONSTRAINT_ERROR\nunhandled CONSTRAINT_ERROR in MAIN at 0\n"
unfolding digits
divides_trace = refl

-- One that the entry body raises which is run for a queued call: the caller raises it, and handles it

abbrev fails : Sections
fails = record
    (image_of (door ∷ []) (sub (ProtectedProcedure 0) 3 1 ∷ sub (EntryBody 0) 5 1 ∷ sub TaskBody 9 1 ∷ sub TaskBody 11 0 ∷ []) (task (codes "CONS") 10 2 ∷ task (codes "MAIN") 5 3 ∷ [])
    (at 0 (op.Push (pos 1)) ∷ at 1 (op.StoreObject 0) ∷ at 0 op.Return
    ∷ at 0 (op.Push (pos 1)) ∷ at 1 op.Raise
    ∷ at 0 (op.EntryCall 0) ∷ at 0 op.Return ∷ at 1 op.Drop ∷ at 0 op.Return
    ∷ at 0 (op.ProtectedCall 0) ∷ at 0 op.Return ∷ []))
    { rows = record { start = 5; end_ = 6; exception = 0; target = 7 } ∷ [] }

fails_trace : trace_text fails (codes "DOOR" ∷ []) nowhere [] (at_most 100)
    ≡ codes "0 0 CONS is ready\n0 0 MAIN is ready\n0 0 CONS runs at 10\n"
    ++ codes "0 1 CONS queues at DOOR\n0 1 MAIN runs at 5\n"
    ++ codes "0 2 MAIN enters DOOR at 10\n0 5 CONS is served at DOOR by MAIN\n"
    ++ codes "0 7 MAIN raises CONSTRAINT_ERROR\n0 7 MAIN leaves DOOR at 5\n0 7 CONS has been served at DOOR\n0 7 CONS has waited 0 at DOOR\n0 7 MAIN is preempted by CONS\n0 7 CONS runs at 10\n"
    ++ codes "0 8 CONS raises CONSTRAINT_ERROR at its call\n"
    ++ codes "0 10 CONS ends\n0 10 MAIN runs at 5\n0 11 MAIN ends\nended at 0\n"
unfolding digits
fails_trace = refl

-- What is refused: a call above the ceiling, and a delay within an action

abbrev high : Sections
high = image_of (door ∷ []) (sub (ProtectedProcedure 0) 1 0 ∷ sub TaskBody 3 0 ∷ []) (task (codes "MAIN") 12 1 ∷ []) (at 0 op.Return ∷ at 0 (op.ProtectedCall 0) ∷ at 0 op.Return ∷ [])

high_trace : trace_text high (codes "DOOR" ∷ []) nowhere [] (at_most 100)
    ≡ codes "0 0 MAIN is ready\n0 0 MAIN runs at 12\n"
    ++ codes "0 1 MAIN is refused at DOOR: its priority is above the ceiling\n0 1 MAIN raises PROGRAM_ERROR\n"
    ++ codes "0 1 MAIN is left by PROGRAM_ERROR\nunhandled PROGRAM_ERROR in MAIN at 0\n"
unfolding digits
high_trace = refl

abbrev waits : Sections
waits = image_of (door ∷ []) (sub (ProtectedProcedure 0) 3 1 ∷ sub TaskBody 5 0 ∷ []) (task (codes "MAIN") 5 1 ∷ []) (delay_until 0 ++ at 0 op.Return ∷ at 0 (op.ProtectedCall 0) ∷ at 0 op.Return ∷ [])

waits_trace : trace_text waits [] nowhere [] (at_most 100)
    ≡ codes "0 0 MAIN is ready\n0 0 MAIN runs at 5\n0 1 MAIN enters object 0 at 10\n"
    ++ codes "0 3 MAIN is refused: it is inside an action\n0 3 MAIN raises PROGRAM_ERROR\n0 3 MAIN leaves object 0 at 5\n"
    ++ codes "0 4 MAIN raises PROGRAM_ERROR at its call\n0 4 MAIN is left by PROGRAM_ERROR\nunhandled PROGRAM_ERROR in MAIN at 0\n"
unfolding digits
waits_trace = refl
