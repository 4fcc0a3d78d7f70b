-- Interrupts worked by computation: tasks and handlers around a box, a protected object of a value that an entry takes.
use Rattle.std.proofs.Common.{◌≡◌, ℕ, ℤ, List, [], ◌∷◌, ◌++◌, Option, Some, None, Bool, true, false, refl}
use Rattle.std.specs.Prelude.{pos, codes, nat_eq, if◌then◌else◌}
use Rattle.std.specs.Fmt.{digits}
use Rattle.base.specs.Schedule.{input}
use Rattle.base.specs.declared.schedule.ScheduleLine.{ScheduleLine}
use Rattle.kernel.specs.State.{Partition, Kernel, Action, is_task, inside}
use Rattle.kernel.specs.Interrupts.{asked, interrupts_of, names_of_all, told}
use Rattle.kernel.specs.Effects.{Effect, Quiet, Says, Delays, Opens, Queues, Ends, Finishes, Dies, begin}
use Rattle.kernel.specs.Worlds.{World, Tasks, Solo, Act, Behaviour, restarted, among, run}
use Rattle.kernel.specs.Text.{Names, text}
use Rattle.kernel.proofs.Examples.{one_of, program}

-- What the box holds, and whether it is full

pub record Box : Type 0 where
  pub held : ℤ
  pub is_full : Bool

-- `Fills c` reads channel c into the box, `Marks` makes it full; `Hears label c` writes a line with the value of channel c;
-- `Calls` opens a procedure, `Takes` is the entry call, `Empties` the statements of its body; `Leaves` is the end of a body of the box,
-- `Raises x` that of one that raises x; `Shows label` writes a line with what was taken
pub data Deed : Type 0 where
  Marks Calls Takes Empties Leaves Stops : Deed
  Fills : (channel : ℕ) → Deed
  Hears : (label : List ℕ) (channel : ℕ) → Deed
  Puts : (label : List ℕ) (value : ℕ) → Deed
  Shows : (label : List ℕ) → Deed
  Waits : (until : ℕ) → Deed
  Raises : (exception : ℕ) → Deed

-- what a task or a handler has still to do, what it has taken, and the exception that goes on after the end of an action
pub record Doer : Type 0 where
  pub deeds : List Deed
  pub taken : ℤ
  pub raising : Option ℕ

abbrev pub Turn : Type 0
Turn = Act Box Doer ℤ

abbrev pub doer : List Deed → Doer
doer deeds = record { deeds = deeds; taken = pos 0; raising = None }

-- the end of a body of the box; the exception that it raised is pending
abbrev pub left : Option ℕ → List Deed → Solo Box Doer → Turn
left raising rest s =
    record { effect = Ends s.memory.is_full; solo = record s { task = record s.task { deeds = rest; raising = raising } }; given = Some s.task.taken }

abbrev pub quietly : Box → List Deed → Solo Box Doer → Turn
quietly box rest s = record { effect = Quiet; solo = record { memory = box; task = record s.task { deeds = rest } }; given = None }

abbrev pub asks : Effect → List Deed → Solo Box Doer → Turn
asks e rest s = record { effect = e; solo = record s { task = record s.task { deeds = rest } }; given = None }

-- statements of the entry's body
abbrev pub entry_body : List Deed → List Deed
entry_body statements = statements ++ Leaves ∷ []

module _ (statements : List Deed) (schedule : List ScheduleLine) where
  abbrev pub turn_of : List Deed → Kernel → Solo Box Doer → Turn
  turn_of [] k s = asks Quiet [] s
  turn_of (Marks ∷ rest) k s = quietly (record s.memory { is_full = true }) rest s
  turn_of (Fills c ∷ rest) k s = quietly (record { held = input schedule c k.now; is_full = true }) rest s
  turn_of (Calls ∷ rest) k s = asks (Opens 0) rest s
  turn_of (Takes ∷ rest) k s = if s.memory.is_full then asks (Opens 0) (entry_body statements ++ rest) s else asks (Queues 0) rest s
  turn_of (Empties ∷ rest) k s =
      let taken = record s.task { taken = s.memory.held } in
      quietly (record s.memory { is_full = false }) rest (record s { task = taken })
  turn_of (Leaves ∷ rest) k s = left s.task.raising rest s
  turn_of (Raises x ∷ rest) k s = left (Some x) rest s
  turn_of (Hears label c ∷ rest) k s = asks (Says label (input schedule c k.now)) rest s
  turn_of (Puts label n ∷ rest) k s = asks (Says label (pos n)) rest s
  turn_of (Shows label ∷ rest) k s = asks (Says label s.task.taken) rest s
  turn_of (Waits n ∷ rest) k s = asks (Delays (pos n)) rest s
  turn_of (Stops ∷ rest) k s = asks Finishes [] s

  -- outside of actions an exception that is pending is unhandled
  abbrev pub raised_or : Option ℕ → List Action → Kernel → Solo Box Doer → Turn
  raised_or (Some x) [] k s = asks (Dies x) [] s
  raised_or (Some x) (a ∷ outer) k s = turn_of s.task.deeds k s
  raised_or None actions k s = turn_of s.task.deeds k s

  -- `handler` is what a handler does; each of its starts begins with it
  abbrev pub around : List Deed → Behaviour Box Doer ℤ
  around handler = record {
    act = λ k t s. restarted (doer handler) k t (raised_or s.task.raising (k.actions t) k s);
    taken = λ o u. u;
    serving = λ o n u t. record t { deeds = entry_body statements ++ t.deeds };
    receives = λ g u. record u { taken = g };
  }

-- Tasks with their deeds, main, and the handler of the channels that `attached` tells

abbrev pub scene : Partition → List Deed → List Deed → (ℕ → Option ℕ) → List ScheduleLine → List (List Deed) → World (Tasks Box Doer)
scene p statements handler attached schedule tasks =
    record {
      kernel = begin p (interrupts_of attached schedule);
      rest = record {
        memory = record { held = pos 0; is_full = false };
        tasks = λ t. doer (if is_task p t then one_of tasks (Stops ∷ []) t else handler);
      };
    }

abbrev pub box_names : Partition → List (List ℕ) → Names
box_names p tasks = record { task = names_of_all p.tasks (one_of tasks (codes "MAIN")); exception = λ x. codes "BAD" }

abbrev pub line : ℕ → ℕ → ℕ → ScheduleLine
line time channel value = record { time = pos time; channel = channel; value = pos value }

-- a procedure of object 0 is the handler of one channel
abbrev pub on : ℕ → ℕ → Option ℕ
on channel c = if nat_eq c channel then Some 0 else None

abbrev pub one_task : ℕ → Partition
one_task priority = program 2 1 (priority ∷ []) (31 ∷ [])

-- Each of two lines of one time starts the handler; the first start serves the queued caller, who takes what the second one has left;
-- a line whose time would come after all tasks have finished is not delivered

abbrev pub fills_taker : List (List Deed)
fills_taker = (Takes ∷ Shows (codes "got") ∷ Takes ∷ Shows (codes "got") ∷ Stops ∷ []) ∷ []

abbrev pub filled : List ScheduleLine → ℕ → World (Tasks Box Doer)
filled schedule n =
    run (among (around (Empties ∷ []) schedule (Fills 2 ∷ Leaves ∷ []))) n
    (scene (one_task 10) (Empties ∷ []) (Fills 2 ∷ Leaves ∷ []) (on 2) schedule fills_taker)

abbrev pub two_lines : List ScheduleLine
two_lines = line 5 2 7 ∷ line 5 2 8 ∷ line 9 2 4 ∷ []

filled_text : text (box_names (one_task 10) (codes "C" ∷ [])) (filled two_lines 20).kernel ≡ codes "5 C got 8\n5 C got 8\nended at 5\n"
unfolding digits
filled_text = refl

-- a line of a channel without handler is awaited by nobody
unfilled_text : text (box_names (one_task 10) (codes "C" ∷ [])) (filled (line 5 1 7 ∷ []) 20).kernel ≡ codes "waits forever at 0\n"
unfolding digits
unfilled_text = refl

-- while the handler runs it is inside the object, and answers tell it by one number; before its start and after its end no actor is there
handler_inside : inside (filled two_lines 2).kernel 0 ≡ 4 ∷ []
handler_inside = refl

handler_told : told (one_task 10) 4 ≡ 255
handler_told = refl

handler_asked : asked (filled two_lines 2).kernel 255 ≡ Some 4
handler_asked = refl

nobody_asked : asked (filled two_lines 20).kernel 255 ≡ None
nobody_asked = refl

task_asked : asked (filled two_lines 2).kernel 0 ≡ Some 0
task_asked = refl

-- A handler that is left by an exception serves the queued call, and the exception is dropped

abbrev pub raised : ℕ → World (Tasks Box Doer)
raised n =
    run (among (around (Empties ∷ Puts (codes "body") 1 ∷ []) (line 3 1 0 ∷ []) (Marks ∷ Raises 1 ∷ []))) n
    (scene (one_task 10) (Empties ∷ Puts (codes "body") 1 ∷ []) (Marks ∷ Raises 1 ∷ []) (on 1) (line 3 1 0 ∷ [])
    ((Takes ∷ Puts (codes "c") 2 ∷ Stops ∷ []) ∷ []))

raised_text : text (box_names (one_task 10) (codes "C" ∷ [])) (raised 20).kernel ≡ codes "3 INTERRUPT_1 body 1\n3 C c 2\nended at 3\n"
unfolding digits
raised_text = refl

-- The handler runs before the task whose delay ends at the time of its line

abbrev pub heard : List ScheduleLine → (ℕ → Option ℕ) → List Deed → ℕ → World (Tasks Box Doer)
heard schedule attached sleeper n =
    run (among (around [] schedule (Hears (codes "h") 1 ∷ Leaves ∷ []))) n
    (scene (one_task 5) [] (Hears (codes "h") 1 ∷ Leaves ∷ []) attached schedule (sleeper ∷ []))

heard_text : text (box_names (one_task 5) (codes "D" ∷ [])) (heard (line 4 1 6 ∷ []) (on 1) (Waits 4 ∷ Puts (codes "d") 1 ∷ Stops ∷ []) 20).kernel
    ≡ codes "4 INTERRUPT_1 h 6\n4 D d 1\nended at 4\n"
unfolding digits
heard_text = refl

-- a line of time 0 waits until nobody runs or is ready, and the clock doesn't pass it
at_start_text : text (box_names (one_task 5) (codes "D" ∷ []))
    (heard (line 0 1 6 ∷ []) (on 1) (Puts (codes "d") 1 ∷ Waits 0 ∷ Puts (codes "d") 2 ∷ Waits 1 ∷ Puts (codes "d") 3 ∷ Stops ∷ []) 30).kernel
    ≡ codes "0 D d 1\n0 D d 2\n0 INTERRUPT_1 h 6\n1 D d 3\nended at 1\n"
unfolding digits
at_start_text = refl

-- handlers of one time run in the order of the lines, not of the channels
in_order_text : text (box_names (one_task 5) (codes "D" ∷ []))
    (heard (line 4 2 9 ∷ line 4 1 6 ∷ []) (λ c. Some 0) (Waits 4 ∷ Puts (codes "d") 1 ∷ Stops ∷ []) 20).kernel
    ≡ codes "4 INTERRUPT_2 h 6\n4 INTERRUPT_1 h 6\n4 D d 1\nended at 4\n"
unfolding digits
in_order_text = refl

-- A task that is due becomes ready before the handler of that time begins, and so before the caller that the handler serves

abbrev pub two_tasks : Partition
two_tasks = program 3 1 (5 ∷ 5 ∷ []) (31 ∷ [])

abbrev pub marked : ℕ → World (Tasks Box Doer)
marked n =
    run (among (around (Empties ∷ []) (line 4 1 0 ∷ []) (Marks ∷ Leaves ∷ []))) n
    (scene two_tasks (Empties ∷ []) (Marks ∷ Leaves ∷ []) (on 1) (line 4 1 0 ∷ [])
    ((Takes ∷ Puts (codes "c") 1 ∷ Stops ∷ []) ∷ (Waits 4 ∷ Puts (codes "d") 1 ∷ Stops ∷ []) ∷ []))

due_first_text : text (box_names two_tasks (codes "C" ∷ codes "D" ∷ [])) (marked 20).kernel ≡ codes "4 D d 1\n4 C c 1\nended at 4\n"
unfolding digits
due_first_text = refl

-- Tasks may call the procedure too: it serves the queued caller, and the task goes on

abbrev pub called : ℕ → World (Tasks Box Doer)
called n =
    run (among (around (Empties ∷ []) [] (Marks ∷ Leaves ∷ []))) n
    (scene (one_task 10) (Empties ∷ []) (Marks ∷ Leaves ∷ []) (on 1) []
    ((Takes ∷ Puts (codes "c") 1 ∷ Stops ∷ []) ∷ (Waits 1 ∷ Calls ∷ Marks ∷ Leaves ∷ Puts (codes "m") 2 ∷ Stops ∷ []) ∷ []))

called_text : text (box_names (one_task 10) (codes "C" ∷ [])) (called 20).kernel ≡ codes "1 MAIN m 2\n1 C c 1\nended at 1\n"
unfolding digits
called_text = refl
