-- What is proved of code that stands for work, as statements; each is the contract of a public function.
use Rattle.std.specs.Prelude.{◌≡◌, ◌≢◌, ◌≤◌, ◌-◌, ℕ, List, [], ◌∷◌, Option, Some, None, false, length, slice_get, ⊤, true}
use Rattle.part_code.specs.base.specs.declared.schedule.ScheduleLine.{ScheduleLine}
use Rattle.kernel.specs.State.{Action, Kernel, Serves, is_task, put}
use Rattle.kernel.specs.Calm.{Calm}
use Rattle.kernel.specs.Effects.{is_above_ceiling, is_inside_any}
use Rattle.part_code.specs.image.specs.Sections.{Sections}
use Rattle.part_code.specs.image.specs.Operations as code
use Rattle.part_code.specs.image.specs.Frames.{Frame, Inner, Opened, Role, Serving, TaskState, Words}
use Rattle.part_code.specs.image.specs.Code.{initial_state}
use Rattle.part_code.specs.image.specs.Starting.{lowest_frame}
use Rattle.part_code.specs.image.specs.Steps as steps
use Rattle.part_code.specs.image.specs.Steps.{behaviour, is_open}
use Rattle.part_code.specs.types.specs.Evaluating.{call}
use Rattle.part_code.specs.types.specs.Values.{Value}
use Rattle.step_soundness.specs.meaning.specs.Calls as calls
use Rattle.step_soundness.specs.meaning.specs.Meeting.{Met, received}
use Rattle.step_soundness.specs.meaning.specs.Programs.{Attached, Procedure, Program, handler_at, program_partition}
use Rattle.step_soundness.specs.meaning.specs.Source.{initial_work}
use Rattle.step_soundness.specs.meaning.specs.SameMeaning.{frames_of}
use Rattle.step_soundness.specs.meaning.specs.SourceSteps.{items_of, program_behaviour, serving}
use Rattle.step_soundness.specs.meaning.specs.Works.{GivenToCaller, Goes, Item, Queued, Store, Target, TaskWork}
use Rattle.step_soundness.specs.Fitting.{entry_of}
use Rattle.step_soundness.specs.Holding.{IsSoundStore, IsSoundTask}
use Rattle.step_soundness.specs.Laws.{Matches, Premises}
use Rattle.step_soundness.specs.Opened.{opened_in}
use Rattle.part_code.specs.expr_code.specs.Coming.{most_steps}
use Rattle.part_code.specs.expr_code.specs.Computing.{Answers}
use Rattle.part_code.specs.expr_code.specs.Seeing.{library_of, Package}
use Rattle.part_code.specs.Resting.{StandsFor}
use Rattle.part_code.specs.Statements.{HasProcedures, IsProcedureCode, Numbers}
use Rattle.step_simulation.specs.Standing.{CodeStands, GivesSame, HasEnded, HasQueued, Note, relation}
use Rattle.part_code.specs.base.specs.Arithmetic.{is_in_base_range}
use Rattle.part_code.specs.base.specs.Schedule.{are_lines}
use Rattle.step_soundness.specs.InSubtypes.{StoreLies, TaskLies}

-- the entry of this object has this body, with its code, in the object's row of the image
pub record HasEntry (i : Sections) (program : Program) (g : Package) (numbers : Numbers) (o : ℕ) (q : Procedure) : Type 0 where
  pub number : ℕ
  pub row : code.entry_of (slice_get i.objects o) ≡ Some number
  pub code : IsProcedureCode i program g numbers q number

-- An image that has the exceptions of a program, the predefined ones among them, and the code of its functions, procedures and entries; and whose barriers are
-- open where those of the program are, for each store and the words that stand for it (RM 9.5.2).
pub record HasCode (i : Sections) (program : Program) (g : Package) (numbers : Numbers) : Type 0 where
  pub exceptions : i.exceptions ≡ program.exceptions
  pub predefined : 4 ≤ length program.exceptions
  pub functions : (left : ℕ) → Answers i (library_of g) (call left) left
  pub procedures : HasProcedures i program g numbers
  pub entries : (o : ℕ) (q : Procedure) → entry_of program.procedures o ≡ Some q → HasEntry i program g numbers o q
  pub barriers : (m : Store) (words : Words) (o : ℕ) → IsSoundStore program m → StoreLies program.scope m → StandsFor program g m words
      → calls.is_open program m o ≡ is_open i words o
  -- what handlers hold at each of their starts stands for what they have to do (RM C.3.1)
  pub restarts : (note : Note) (l : Kernel) (t : ℕ) (a : Attached) → is_task (program_partition program) t ≡ false
      → handler_at (t - length program.tasks) program.handlers ≡ Some a
      → CodeStands i program g numbers note l t (initial_work program t) (initial_state i t)

-- What is known of task t, which is to take a step, in each world of a program's run: the store and the task's work break no rule, the task waits in no entry
-- call, and the kernel knows the protected actions that its items will end, and the program's priorities and ceilings. The barrier is closed of each call that
-- waits in the queue of an object whose entry the task may call.
pub record IsKnownHere (program : Program) (k : Kernel) (t : ℕ) (m : Store) (w : TaskWork) : Type 0 where
  pub store : IsSoundStore program m
  pub task : IsSoundTask program m None w
  pub opened : Matches (k.actions t) (opened_in (items_of w.work))
  pub partition : k.partition ≡ program_partition program
  pub attached : is_task (program_partition program) t ≡ false
      → (a : Attached) × (handler_at (t - length program.tasks) program.handlers ≡ Some a)
  pub closed : (o u : ℕ) → k.queued o ≡ Some u → is_inside_any k t ≡ false → is_above_ceiling k t o ≡ false → calls.is_open program m o ≡ false
  -- all values lie in their subtypes, and the time is a number of 64 bits
  pub values : StoreLies program.scope m
  pub objects : TaskLies program.scope w
  pub time : is_in_base_range k.now ≡ true

-- the caller for whom the task's frame runs the body of an entry is the one that the kernel knows
abbrev pub KnowsCaller : Kernel → (t : ℕ) → TaskState → Type 0
KnowsCaller k t s = (o u : ℕ) (pending : Option ℕ) → s.frame.role ≡ Serving o u pending → (outer : List Action) × (k.actions t ≡ Serves o u ∷ outer)

-- Each step of a task is met by the frames that stand for its work.
abbrev pub StepsAreMet : Type 0
StepsAreMet =
    (i : Sections) (program : Program) (g : Package) (numbers : Numbers) → HasCode i program g numbers → Premises program
    → (schedule : List ScheduleLine) → are_lines schedule ≡ true
    → (note : Note) (k : Kernel) (t : ℕ) → Calm k t → (store : Store) (m : Words) (w : TaskWork) (s : TaskState)
    → IsKnownHere program k t store w
    → KnowsCaller k t s
    → StandsFor program g store m
    → CodeStands i program g numbers note k t w s
    → Met (program_behaviour program schedule) (behaviour i schedule) (relation i program g numbers) frames_of (most_steps i) note k t
    (record { memory = store; task = w }) (record { memory = m; task = s })

-- ---- what reaches other tasks

-- this holds of the caller for whom a frame with this role runs the body of an entry
abbrev pub OfServed : (ℕ → Type 0) → Role → Type 0
OfServed P Inner = ⊤
OfServed P (Opened o) = ⊤
OfServed P (Serving o u pending) = P u

-- this holds of the callers for whom these frames run the bodies of entries
abbrev pub OfAllServed : (ℕ → Type 0) → List Frame → Type 0
OfAllServed P [] = ⊤
OfAllServed P (f ∷ fs) = OfServed P f.role × OfAllServed P fs

-- Task v, which did not run in the one kernel, waits in the same queue in the other, and its note and those of the callers that it serves are the same.
pub record IsLeftAlone (note next : Note) (k l : Kernel) (v : ℕ) (s : TaskState) : Type 0 where
  pub on : k.outcome ≡ None
  pub running : k.running ≢ Some v
  pub queues : (o : ℕ) → k.queued o ≡ Some v → l.queued o ≡ Some v
  pub queued : (o : ℕ) → l.queued o ≡ Some v → k.queued o ≡ Some v
  pub own : next v ≡ note v
  pub served : OfAllServed (λ u. next u ≡ note u) (s.frame ∷ s.callers)

-- The caller of task number u waits in the queue of object o alone, for which it calls the entry q.
pub record IsInQueue (program : Program) (k : Kernel) (o u : ℕ) (caller : TaskWork) (q : Procedure) (vs : List Value) (xs : List Target)
    (items : List Item) : Type 0 where
  pub on : k.outcome ≡ None
  pub running : k.running ≢ Some u
  pub queued : k.queued o ≡ Some u
  pub work : caller.work ≡ Goes (Queued q vs xs ∷ items)
  pub entry : entry_of program.procedures o ≡ Some q

-- It waits while another task runs the body of the entry for it.
pub record IsInService (k : Kernel) (u : ℕ) (caller : TaskWork) (q : Procedure) (vs : List Value) (xs : List Target) (items : List Item) : Type 0 where
  pub on : k.outcome ≡ None
  pub running : k.running ≢ Some u
  pub queued : (o : ℕ) → k.queued o ≢ Some u
  pub work : caller.work ≡ Goes (Queued q vs xs ∷ items)

module _ (i : Sections) (program : Program) (g : Package) (numbers : Numbers) where
  -- what stood for a task that neither took the step nor is reached stands for it
  abbrev pub OthersStand : Type 0
  OthersStand = (note next : Note) (k l : Kernel) (v : ℕ) (w : TaskWork) (s : TaskState) → IsLeftAlone note next k l v s
      → CodeStands i program g numbers note k v w s
      → CodeStands i program g numbers next l v w s

  -- a task that has just queued stands at its call, under the note that tells its addresses
  abbrev pub QueuersStand : Type 0
  QueuersStand = (note : Note) (k l : Kernel) (t o : ℕ) (w : TaskWork) (s : TaskState) (h : HasQueued i program g numbers note k o w s)
      → OfAllServed (λ u. u ≢ t) (s.frame ∷ s.callers)
      → l.queued o ≡ Some t
      → CodeStands i program g numbers (put t h.addresses note) l t w s

  -- a task that has ended an action, and serves nobody, goes on, unless nothing is left to do in its frame
  abbrev pub EndersStand : Type 0
  EndersStand = (note : Note) (k l : Kernel) (t : ℕ) (w : TaskWork) (s : TaskState) (p : Option GivenToCaller) (q : Option steps.Given)
      → (s.frame.subprogram ≡ (lowest_frame i).subprogram → ⊥)
      → HasEnded i program g numbers note k t w s p q
      → CodeStands i program g numbers note l t w s

  -- one that serves a caller runs the body of the entry for it, and the caller waits on without what it has passed
  abbrev pub ServersStand : Type 0
  ServersStand = HasCode i program g numbers
      → (note : Note) (k l : Kernel) (t o u : ℕ) (w caller : TaskWork) (s state : TaskState) (x : Option GivenToCaller) (y : Option steps.Given)
      (q : Procedure) (vs : List Value) (xs : List Target) (items : List Item)
      → HasEnded i program g numbers note k t w s x y
      → IsInQueue program k o u caller q vs xs items
      → ((p : ℕ) → l.queued p ≢ Some u)
      → CodeStands i program g numbers note k u caller state
      → CodeStands i program g numbers note l t (serving o caller w) (steps.serving i o u state s)
      × CodeStands i program g numbers note l u caller (steps.taken i o state)

  -- a caller that was served goes on with what it is given
  abbrev pub ServedStand : Type 0
  ServedStand = (note : Note) (k l : Kernel) (u : ℕ) (caller : TaskWork) (state : TaskState) (x : Option GivenToCaller) (y : Option steps.Given)
      (q : Procedure) (vs : List Value) (xs : List Target) (items : List Item) (schedule : List ScheduleLine)
      → GivesSame i program g numbers (note u) x y
      → IsInService k u caller q vs xs items
      → CodeStands i program g numbers note k u caller state
      → CodeStands i program g numbers note l u (received (program_behaviour program schedule) x caller) (received (behaviour i schedule) y state)

-- Behind the effect of each step all tasks stand for their work again.
pub record EffectsAreMet : Type 0 where
  pub others : (i : Sections) (program : Program) (g : Package) (numbers : Numbers) → OthersStand i program g numbers
  pub queuers : (i : Sections) (program : Program) (g : Package) (numbers : Numbers) → QueuersStand i program g numbers
  pub enders : (i : Sections) (program : Program) (g : Package) (numbers : Numbers) → EndersStand i program g numbers
  pub servers : (i : Sections) (program : Program) (g : Package) (numbers : Numbers) → ServersStand i program g numbers
  pub served : (i : Sections) (program : Program) (g : Package) (numbers : Numbers) → ServedStand i program g numbers
