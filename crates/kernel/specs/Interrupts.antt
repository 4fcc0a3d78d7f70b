-- Interrupts: how one is delivered to its handler, and what is told of the handler while it runs (RM C.3, C.3.1).
use Rattle.std.specs.Prelude.{ℕ, ◌-◌, List, [], ◌∷◌, ◌++◌, pos, Option, Some, None, codes, nat_eq, nat_lt, int_lt, if◌then◌else◌}
use Rattle.std.specs.Fmt.{signed_decimal}
use Rattle.base.specs.declared.limits.TheConstants.{ACTOR}
use Rattle.base.specs.declared.schedule.ScheduleLine.{ScheduleLine}
use Rattle.kernel.specs.State.{Partition, Interrupt, Kernel, IsRunning, Writes, actor, is_task, put}

abbrev pub interrupt_if : Option ℕ → ScheduleLine → List Interrupt → List Interrupt
interrupt_if None l rest = rest
interrupt_if (Some o) l rest = record { time = l.time; channel = l.channel; object = o } ∷ rest

-- the interrupts of a schedule: its lines whose channel has a handler, a procedure of the object that `attached` tells
abbrev pub interrupts_of : (ℕ → Option ℕ) → List ScheduleLine → List Interrupt
interrupts_of attached [] = []
interrupts_of attached (l ∷ ls) = interrupt_if (attached l.channel) l (interrupts_of attached ls)

-- the handler runs from here to its end, with the action of its procedure's object open; its start is part of the step that delivers the interrupt
abbrev pub starts : Interrupt → Kernel → Kernel
starts i k =
    let a = actor k.partition i.channel in
    record k { running = Some a; actions = put a (Writes i.object ∷ []) k.actions; place = put a IsRunning k.place }

-- the first of the pending interrupts is delivered, and pending no more, where its time has come
abbrev pub delivers : List Interrupt → Kernel → Kernel
delivers [] k = k
delivers (i ∷ is) k = if int_lt k.now i.time then k else starts i (record k { pending = is })

-- the number that answers tell: a task's own, and one for all actors, of which no two are there at a time
abbrev pub told : Partition → ℕ → ℕ
told p u = if is_task p u then u else ACTOR

abbrev pub actor_if : Partition → Option ℕ → Option ℕ
actor_if p None = None
actor_if p (Some u) = if is_task p u then None else Some u

-- the task or actor that a number asks for, if it is there
abbrev pub asked : Kernel → ℕ → Option ℕ
asked k n = if is_task k.partition n then Some n else if nat_eq n ACTOR then actor_if k.partition k.running else None

-- the name of an actor in lines
abbrev pub interrupt_name : ℕ → List ℕ
interrupt_name channel = codes "INTERRUPT_" ++ signed_decimal (pos channel)

-- the name of each of so many tasks, and of the actors beyond them, from those of the tasks
abbrev pub names_of_all : ℕ → (ℕ → List ℕ) → ℕ → List ℕ
names_of_all count tasks u = if nat_lt u count then tasks u else interrupt_name (u - count)
