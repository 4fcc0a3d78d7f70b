-- What an effect makes of all tasks: those that it reaches and those that it leaves alone stand for their work behind it (RM 9.5.3).
use Rattle.std.proofs.Common.{◌≡◌, ◌≢◌, ◌⊎◌, ◌-◌, ◌<◌, ◌≤◌, inl, inr, ℕ, List, [], ◌∷◌, length, Option, Some, None, Bool, true, false, cond, refl, sym, ap, ◌∙◌, subst, ⊎_elim, arith, rules}
use Rattle.std.specs.Prelude.{nat_lt, slice_get}
use Rattle.std.proofs.lemmas.Bool.{true≢false, cases_lt, lt-ltb}
use Rattle.std.proofs.lemmas.Option.{slice_get_within}
use Rattle.base.specs.declared.schedule.ScheduleLine.{ScheduleLine}
use Rattle.kernel.specs.State.{Action, IsFinished, IsQueued, IsRunning, IsServed, Kernel, Reads, Serves, Writes, active, object_of, put}
use Rattle.kernel.specs.Effects.{Breaks, Closes, Delays, Dies, Effect, Ending, Ends, Finishes, HandsBack, Opens, Queues, Quiet, Says, TakesOver, Views, after, ending_of, is_above_ceiling, is_inside_any}
use Rattle.kernel.specs.Invariant.{Busy, CanWrite, HasAction, IsInsideObject, Kept, ServesCall}
use Rattle.kernel.specs.Laws.{LeftUnmoved}
use Rattle.kernel.specs.PutLaws.{of_put, put_other, put_same}
use Rattle.kernel.proofs.Left.{takes_goes_on}
use Rattle.kernel.proofs.Lists.{base_raised, ceiling_raised}
use Rattle.kernel.specs.Worlds.{Solo, Tasks, ending, reached}
use Rattle.image.specs.Attachments.{attached_to}
use Rattle.image.specs.Code.{CodeWorld, partition_of}
use Rattle.image.specs.Operations.{called}
use Rattle.image.specs.Sections.{Sections}
use Rattle.image.specs.Sections as sections
use Rattle.image.specs.Frames.{Frame, Inner, Opened, Role, Serving, TaskState, Words, kind_of}
use Rattle.image.specs.Starting.{body_frame, body_of, handler_state, handler_state_of, initial_state, lowest_frame, role_within, task_state}
use Rattle.image.specs.Steps.{behaviour, is_open}
use Rattle.image.specs.Steps as steps
use Rattle.image.specs.declared.subprograms.Subprogram.{Subprogram}
use Rattle.image_laws.specs.Linked.{IsGone, actions_of, kind_at, with_action}
use Rattle.image_laws.specs.Shape.{IsGoingOrPlaced, IsImageTask, is_own}
use Rattle.image_laws.specs.Whole.{IsWhole}
use Rattle.meaning.specs.Calls as calls
use Rattle.meaning.specs.Meeting.{Before, Moved, Owed, Relation, behind}
use Rattle.meaning.specs.Programs.{Procedure, Program}
use Rattle.meaning.specs.SameMeaning.{frames_of}
use Rattle.meaning.specs.Source.{SourceWorld}
use Rattle.meaning.specs.SourceSteps.{program_behaviour}
use Rattle.meaning.specs.Works.{Activation, GivenToCaller, Goes, Item, Queued, Store, Target, TaskWork, Work}
use Rattle.program_soundness.specs.step_soundness.specs.stmt_rules.specs.declared.around.Around.{Around}
use Rattle.program_soundness.specs.step_soundness.specs.Fitting.{entry_of}
use Rattle.program_soundness.specs.step_soundness.specs.Holding.{IsSoundTask}
use Rattle.program_soundness.specs.step_soundness.specs.Judged.{IsQueuedWork, Waiting}
use Rattle.program_soundness.specs.SoundWorlds.{IsSoundWorld, awaited}
use Rattle.program_soundness.proofs.Handling.{some_action}
use Rattle.types.specs.Scopes.{Scope}
use Rattle.types.specs.Values.{Value}
use Rattle.expr_code.specs.Coming.{most_steps}
use Rattle.expr_code.specs.Seeing.{Package}
use Rattle.step_simulation.specs.Laws.{EffectsAreMet, HasCode, OfAllServed, OfServed}
use Rattle.step_simulation.specs.Standing.{CodeStands, GivesSame, HasEnded, HasQueued, IsOver, LeavesBy, Note, work_size}
use Rattle.step_simulation.specs.part_code.specs.Resting.{StandsFor}
use Rattle.step_simulation.specs.part_code.specs.Statements.{Numbers}
use Rattle.compiler.proofs.Unmoved.{hands_back, queued_after, queued_behind, queued_by, queues_keep}

less_is : (m n : ℕ) → m < n → nat_lt m n ≡ true
less_is m n h = search rules

-- ---- whom frames serve

-- what holds of every task holds of those
everyone_served : (P : ℕ → Type 0) → ((u : ℕ) → P u) → (fs : List Frame) → OfAllServed P fs
everyone_served P h [] = tt
everyone_served P h (f ∷ fs) = (by_role f.role, everyone_served P h fs)
  where
    by_role : (r : Role) → OfServed P r
    by_role Inner = tt
    by_role (Opened o) = tt
    by_role (Serving o u pending) = h u

-- the open actions of a frame with this role, and of those below it
abbrev role_actions : Sections → Frame → List Frame → Role → List Action
role_actions i f fs r = with_action r (kind_at i f) (actions_of i fs)

-- this holds of all callers whose calls these actions serve
abbrev OfCallers : (ℕ → Type 0) → List Action → Type 0
OfCallers P actions = (o u : ℕ) → HasAction (ServesCall o u) actions → P u

-- ... and then of those that the frames serve
served_by : (P : ℕ → Type 0) (i : Sections) (fs : List Frame) → OfCallers P (actions_of i fs) → OfAllServed P fs
served_by P i [] h = tt
served_by P i (f ∷ fs) h = by_role f.role h (λ each. served_by P i fs each)
  where
    by_role : (r : Role) → OfCallers P (role_actions i f fs r) → (OfCallers P (actions_of i fs) → OfAllServed P fs) → OfServed P r × OfAllServed P fs
    by_role Inner each below = (tt, below each)
    by_role (Opened p) each below = (tt, below (λ o u serves. each o u (inr serves)))
    by_role (Serving p v pending) each below = (each p v (inl (refl, refl)), below (λ o u serves. each o u (inr serves)))

-- a handler that has not begun, and a task at its start, serves nobody
initial_serves : (P : ℕ → Type 0) (i : Sections) (v : ℕ) → OfAllServed P ((initial_state i v).frame ∷ (initial_state i v).callers)
initial_serves P i v = by_task (nat_lt v (length i.tasks))
  where
    body_serves : (n : ℕ) (s : Option Subprogram) → OfServed P (body_frame i n s).role
    body_serves n None = tt
    body_serves n (Some s) = tt

    within_serves : (o : Option ℕ) → OfServed P (role_within o)
    within_serves None = tt
    within_serves (Some o) = tt

    handler_serves : (number : Option ℕ) → OfAllServed P ((handler_state_of i number).frame ∷ (handler_state_of i number).callers)
    handler_serves None = (tt, tt)
    handler_serves (Some n) = (within_serves (sections.object_of (kind_of (called i n))), (tt, tt))

    by_task : (b : Bool) → (let s = cond b (task_state i v) (handler_state i (v - length i.tasks)) in OfAllServed P (s.frame ∷ s.callers))
    by_task true = (let n = body_of (slice_get i.tasks v) in body_serves n (called i n), tt)
    by_task false = handler_serves (attached_to (v - length i.tasks) i.attachments)

-- ---- a frame that runs or waits has a subprogram, which the one that never runs hasn't

no_code : (i : Sections) (f : Frame) (s : Subprogram) → called i f.subprogram ≡ Some s → f.subprogram ≡ (lowest_frame i).subprogram → ⊥
no_code i f s there lowest =
    let same : f.subprogram ≡ length i.subprograms = lowest in
    let less = slice_get_within i.subprograms f.subprogram s there in
    omega (arith, less, same)

going_above : (i : Sections) (raising : Option ℕ) (f : Frame) → IsGoingOrPlaced i raising f → f.subprogram ≡ (lowest_frame i).subprogram → ⊥
going_above i None f h = no_code i f h.s h.stands.subprogram
going_above i (Some x) f h = no_code i f h.s h.stands.subprogram

-- ---- a task that waits in an entry call

-- its work is the call of the object's entry
record IsWaiting (program : Program) (o : ℕ) (w : Work) : Type 0 where
  q : Procedure
  vs : List Value
  xs : List Target
  items : List Item
  work : w ≡ Goes (Queued q vs xs ∷ items)
  entry : entry_of program.procedures o ≡ Some q

queued_work : (program : Program) (o : ℕ) (own : Activation) (s : Scope) (outer : List Waiting) (a : Around) (w : Work) → IsQueuedWork program o own s outer a w
    → IsWaiting program o w
queued_work program o own s outer a (Goes (Queued q vs xs ∷ items)) h =
    record { q = q; vs = vs; xs = xs; items = items; work = refl; entry = h.0.only }
queued_work program o own s outer a other h = absurd h

waiting : (program : Program) (m : Store) (o : ℕ) (waits : Option ℕ) (w : TaskWork) → waits ≡ Some o → IsSoundTask program m waits w
    → IsWaiting program o w.work
waiting program m o waits w is h =
    let here : IsSoundTask program m (Some o) w = subst (λ q. IsSoundTask program m q w) is h in
    queued_work program o w.own here.scope here.outer here.around w.work here.work

-- ---- behind a step

-- what is asked, and kept, of each task of the image
abbrev pub image_relation : (i : Sections) (program : Program) (g : Package) (numbers : Numbers)
    → Relation Note Store TaskWork GivenToCaller Words TaskState steps.Given
image_relation i program g numbers = record {
  shares = StandsFor program g;
  stands = λ note k u w s. IsImageTask i u → CodeStands i program g numbers note k u w s;
  leaves = λ note k t e w s p q. LeavesBy i program g numbers note k t e w s p q;
  size = λ w. work_size w.work;
}

-- what is known of the program, of the image, and of where task t takes a step
pub record Step : Type 1 where
  pub unmoved : LeftUnmoved
  pub effects : EffectsAreMet
  pub i : Sections
  pub program : Program
  pub g : Package
  pub numbers : Numbers
  pub has : HasCode i program g numbers
  pub schedule : List ScheduleLine
  pub Ones : SourceWorld → Type 0
  pub sound : (v : SourceWorld) → Ones v → IsSoundWorld program v
  pub note : Note
  pub k : Kernel
  pub t : ℕ
  pub c : Tasks Store TaskWork
  pub d : Tasks Words TaskState

module _ (this : Step) where
  open this use {unmoved, effects, i, program, g, numbers, schedule, note, k, t, c, d}

  abbrev rel : Relation Note Store TaskWork GivenToCaller Words TaskState steps.Given
  rel = image_relation i program g numbers

  abbrev pub IsBefore : Type 0
  IsBefore = Before (program_behaviour program schedule) (behaviour i schedule) rel frames_of (most_steps i) this.Ones (IsWhole i) note k t c d

  abbrev pub HasMoved : Effect → Solo Store TaskWork → Solo Words TaskState → Option GivenToCaller → Option steps.Given → Type 0
  HasMoved e a b p q = Moved (program_behaviour program schedule) (behaviour i schedule) rel frames_of (most_steps i) this.Ones (IsWhole i) note k t c d e a b p q

  abbrev pub IsOwed : (next : Note) → Effect → TaskWork → TaskState → Option GivenToCaller → Option steps.Given → Ending → Type 0
  IsOwed next e a b p q x =
      Owed (program_behaviour program schedule) (behaviour i schedule) rel frames_of (most_steps i) next k t e c.tasks d.tasks a b p q x

  module _ (known : IsBefore) where
    running : k.running ≡ Some t
    running = known.runner.calm.runs.running

    on : k.outcome ≡ None
    on = known.runner.calm.runs.on

    world : IsSoundWorld program (record { kernel = k; rest = c })
    world = this.sound (record { kernel = k; rest = c }) known.ones

    kept : Kept (calls.is_open program c.memory) k
    kept = world.kernel

    not_running : (v : ℕ) → v ≢ t → k.running ≢ Some v
    not_running v other is =
        let there : k.running ≡ Some t = running in
        let here : k.running ≡ Some v = is in
        let same : t ≡ v = cc in
        other (sym same)

    -- who waits while the body is run for it isn't the task that runs
    apart : (o u : ℕ) → k.place u ≡ IsServed o → u ≢ t
    apart o u served same =
        let there : k.place t ≡ IsRunning = kept.sound.runs t running in
        let here : k.place t ≡ IsServed o = ap k.place (sym same) ∙ served in
        absurd cc

    -- nor is anybody for whom a task runs a body
    serves_others : (v : ℕ) → OfAllServed (λ u. u ≢ t) ((d.tasks v).frame ∷ (d.tasks v).callers)
    serves_others v = by_gone (is_own i v) refl (k.actions v) refl
      where
        there : (IsGone i k.actions v → ⊥) → OfAllServed (λ u. u ≢ t) ((d.tasks v).frame ∷ (d.tasks v).callers)
        there goes =
            served_by (λ u. u ≢ t) i ((d.tasks v).frame ∷ (d.tasks v).callers)
            (λ o u serves. apart o u (kept.sound.serving v o u (subst (HasAction (ServesCall o u)) (sym (known.others.linked.by_frames v goes)) serves)).0)

        by_gone : (own : Bool) → is_own i v ≡ own → (actions : List Action) → k.actions v ≡ actions
            → OfAllServed (λ u. u ≢ t) ((d.tasks v).frame ∷ (d.tasks v).callers)
        by_gone true own actions is = there (λ gone. true≢false (sym own ∙ gone.0))
        by_gone false own (a ∷ outer) is = there (λ gone. some_action a outer (sym is ∙ gone.1))
        by_gone false own [] is =
            subst (λ s. OfAllServed (λ u. u ≢ t) (s.frame ∷ s.callers)) (sym (known.others.linked.gone v (own, is))) (initial_serves (λ u. u ≢ t) i v)

    -- a full queue that the running task comes to, outside all actions and below the ceiling, has a closed barrier: who may write the object would hold it
    pub closed_queue : (o u : ℕ) → k.queued o ≡ Some u → is_inside_any k t ≡ false → is_above_ceiling k t o ≡ false
        → calls.is_open program c.memory o ≡ false
    closed_queue o u queued free low = ⊎_elim (λ closed. closed) (λ x. absurd (high x.0 x.1)) (kept.sound.closed o u queued)
      where
        same_object : (a : Action) → CanWrite o a → object_of a ≡ o
        same_object (Reads p) h = absurd h
        same_object (Writes p) h = h
        same_object (Serves p v) h = h

        inside_it : (actions : List Action) → HasAction (CanWrite o) actions → IsInsideObject o actions
        inside_it [] h = absurd h
        inside_it (a ∷ outer) (inl h) = inl (same_object a h)
        inside_it (a ∷ outer) (inr h) = inr (inside_it outer h)

        busy : (actions : List Action) → HasAction (CanWrite o) actions → Busy actions
        busy [] h = absurd h
        busy (a ∷ outer) h = tt

        never_inside : (actions : List Action) → Busy actions → elim actions [ [] ↦ false | a ∷ outer ↦ true ] ≡ false → ⊥
        never_inside [] h e = absurd h
        never_inside (a ∷ outer) h e = absurd cc

        high : (v : ℕ) → HasAction (CanWrite o) (k.actions v) → ⊥
        high v writes =
            let others : v ≢ t = λ same. never_inside (k.actions t) (subst (λ x. Busy (k.actions x)) same (busy (k.actions v) writes)) free in
            let less = kept.sound.below t v running others (busy (k.actions v) writes) in
            let there = ceiling_raised k.partition.ceiling (k.partition.base v) o (k.actions v) (inside_it (k.actions v) writes) in
            let own = base_raised k.partition.ceiling (k.partition.base t) (k.actions t) in
            let above = less_is (k.partition.ceiling o) (active k t) (omega (arith, less, there, own)) in
            let not_above : is_above_ceiling k t o ≡ false = low in
            absurd cc

    -- ---- those that are left alone

    under_same : (l : Kernel) (v : ℕ) → v ≢ t → ((o : ℕ) → k.queued o ≡ Some v → l.queued o ≡ Some v)
        → ((o : ℕ) → l.queued o ≡ Some v → k.queued o ≡ Some v)
        → rel.stands note l v (c.tasks v) (d.tasks v)
    under_same l v other queues queued = λ there.
        effects.others i program g numbers note note k l v (c.tasks v) (d.tasks v)
        (record {
          on = on;
          running = not_running v other;
          queues = queues;
          queued = queued;
          own = refl;
          served = everyone_served (λ u. note u ≡ note u) (λ u. refl) ((d.tasks v).frame ∷ (d.tasks v).callers);
        })
        (known.stand v there)

    -- the same calls are queued
    same_queues : (l : Kernel) → l.queued ≡ k.queued → (v : ℕ) → v ≢ t → rel.stands note l v (c.tasks v) (d.tasks v)
    same_queues l same v other = under_same l v other (λ o is. ap (λ f. f o) same ∙ is) (λ o is. sym (ap (λ f. f o) same) ∙ is)

    plain : (e : Effect) → queued_behind t e k ≡ k.queued → (a : TaskWork) (b : TaskState) (p : Option GivenToCaller) (q : Option steps.Given)
        → CodeStands i program g numbers note (after t e k) t a b → IsOwed note e a b p q Closes
    plain e same a b p q stands = (λ there. stands, λ v other. same_queues (after t e k) (queued_after unmoved t e k ∙ same) v other)

    -- ---- a call that queues

    module _ (o : ℕ) (a : Solo Store TaskWork) (b : Solo Words TaskState) (p : Option GivenToCaller) (q : Option steps.Given)
        (moved : HasMoved (Queues o) a b p q) where
      abbrev h : HasQueued i program g numbers note k o a.task b.task
      h = moved.leaves

      abbrev next : Note
      next = put t h.addresses note

      abbrev l : Kernel
      l = after t (Queues o) k

      queue : l.queued ≡ put o (Some t) k.queued
      queue = queued_after unmoved t (Queues o) k

      -- it is a task, since it waits in a queue
      own_number : t < (partition_of i).tasks
      own_number = ⊎_elim (λ less. less) (λ beyond. absurd (never beyond)) (cases_lt t (partition_of i).tasks)
        where
          waits : l.place t ≡ IsQueued o
          waits = moved.others.kept.sound.queue o t (ap (λ f. f o) queue ∙ put_same o o (Some t) k.queued refl)

          never : (partition_of i).tasks ≤ t → ⊥
          never beyond =
              let same : l.partition ≡ partition_of i = moved.others.partition in
              ⊎_elim
              (λ finished. (let one : l.place t ≡ IsFinished = finished in let two : l.place t ≡ IsQueued o = waits in absurd (cc)))
              (λ runs. (let one : l.place t ≡ IsRunning = moved.others.kept.sound.runs t runs in let two : l.place t ≡ IsQueued o = waits in absurd (cc)))
              (moved.others.kept.sound.gone t (subst (λ p. p.tasks ≤ t) (sym same) beyond))

      -- its frames are those that the kernel knows
      own_frames : k.actions t ≡ actions_of i (b.task.frame ∷ b.task.callers)
      own_frames =
          sym (queues_keep unmoved t o k (subst (λ p. t < p.tasks) (sym known.others.partition) own_number))
          ∙ moved.others.linked.by_frames t (λ gone. true≢false (sym (lt-ltb t (partition_of i).tasks own_number) ∙ gone.0))
          ∙ ap (λ s. actions_of i (s.frame ∷ s.callers)) (put_same t t b.task d.tasks refl)

      serves : OfAllServed (λ u. u ≢ t) (b.task.frame ∷ b.task.callers)
      serves =
          served_by (λ u. u ≢ t) i (b.task.frame ∷ b.task.callers)
          (λ p' u is. apart p' u (kept.sound.serving t p' u (subst (HasAction (ServesCall p' u)) (sym own_frames) is)).0)

      others_queue : (v : ℕ) → v ≢ t → rel.stands next l v (c.tasks v) (d.tasks v)
      others_queue v other = λ there.
          effects.others i program g numbers note next k l v (c.tasks v) (d.tasks v)
          (record {
            on = on;
            running = not_running v other;
            queues = queues;
            queued = queued;
            own = put_other t v h.addresses note other;
            served = unlike ((d.tasks v).frame ∷ (d.tasks v).callers) (serves_others v);
          })
          (known.stand v there)
        where
          queues : (p' : ℕ) → k.queued p' ≡ Some v → l.queued p' ≡ Some v
          queues p' is =
              ap (λ f. f p') queue
              ∙ put_other o p' (Some t) k.queued
              (λ same.
              let none : k.queued p' ≡ None = ap k.queued same ∙ h.free in
              let some : k.queued p' ≡ Some v = is in
              absurd cc)
              ∙ is

          queued : (p' : ℕ) → l.queued p' ≡ Some v → k.queued p' ≡ Some v
          queued p' is =
              of_put (λ x. x ≡ Some v) (k.queued p' ≡ Some v) o p' (Some t) k.queued (sym (ap (λ f. f p') queue) ∙ is)
              (λ same mine. let e : t ≡ v = cc in absurd (other (sym e)))
              (λ unlike here. here)

          unlike : (fs : List Frame) → OfAllServed (λ u. u ≢ t) fs → OfAllServed (λ u. next u ≡ note u) fs
          unlike [] all = tt
          unlike (f ∷ fs) all = (by_role f.role all.0, unlike fs all.1)
            where
              by_role : (r : Role) → OfServed (λ u. u ≢ t) r → OfServed (λ u. next u ≡ note u) r
              by_role Inner one = tt
              by_role (Opened p') one = tt
              by_role (Serving p' u pending) one = put_other t u h.addresses note one

      queued_owed : IsOwed next (Queues o) a.task b.task p q Closes
      queued_owed = (
        (λ there. effects.queuers i program g numbers note k l t o a.task b.task h serves (ap (λ f. f o) queue ∙ put_same o o (Some t) k.queued refl)),
        others_queue,
      )

    -- ---- the end of an action

    module _ (is_open : Bool) (a : Solo Store TaskWork) (b : Solo Words TaskState) (p : Option GivenToCaller) (q : Option steps.Given)
        (moved : HasMoved (Ends is_open) a b p q) where
      abbrev later : Kernel
      later = after t (Ends is_open) k

      abbrev e : Effect
      e = Ends is_open

      queue_by : (x : Ending) → ending_of is_open (k.actions t) k.queued ≡ x → later.queued ≡ queued_by x k.queued
      queue_by x is = queued_after unmoved t (Ends is_open) k ∙ ap (λ y. queued_by y k.queued) is

      -- the world behind the step, in which the task is left so, unless it serves a caller
      abbrev ended : CodeWorld
      ended = behind (behaviour i schedule) t k e d b q

      left_closed : ending_of is_open (k.actions t) k.queued ≡ Closes → ended.rest.tasks t ≡ b.task
      left_closed is = ap (λ x. reached (behaviour i schedule) t x q (put t b.task d.tasks) t) is ∙ put_same t t b.task d.tasks refl

      left_handing : (u : ℕ) → u ≢ t → ending_of is_open (k.actions t) k.queued ≡ HandsBack u → ended.rest.tasks t ≡ b.task
      left_handing u other is = ap (λ x. reached (behaviour i schedule) t x q (put t b.task d.tasks) t) is ∙ by_given q
        where
          by_given : (given : Option steps.Given) → reached (behaviour i schedule) t (HandsBack u) given (put t b.task d.tasks) t ≡ b.task
          by_given None = put_same t t b.task d.tasks refl
          by_given (Some given) =
              put_other u t ((behaviour i schedule).receives given (put t b.task d.tasks u)) (put t b.task d.tasks) (λ same. other (sym same))
              ∙ put_same t t b.task d.tasks refl

      -- its frame isn't the one that never runs
      above : ended.rest.tasks t ≡ b.task → IsImageTask i t → b.task.frame.subprogram ≡ (lowest_frame i).subprogram → ⊥
      above left in_image lowest =
          let linked = moved.others.linked in
          let state = ended.rest.tasks t in
          let here : state.frame.subprogram ≡ (lowest_frame i).subprogram = ap (λ s. s.frame.subprogram) left ∙ lowest in
          going_above i state.raising state.frame
          (linked.sound t in_image
          (λ served.
          let waits = (linked.awaiting served.0 served.1 t served.2).waiting in
          no_code i state.frame waits.s waits.stands.subprogram here)).running here

      goes_on : ended.rest.tasks t ≡ b.task → IsImageTask i t → CodeStands i program g numbers note later t a.task b.task
      goes_on left in_image = by_leaving moved.leaves
        where
          by_leaving : HasEnded i program g numbers note k t a.task b.task p q ⊎ IsOver i program g numbers note k t is_open a.task b.task p q
              → CodeStands i program g numbers note later t a.task b.task
          by_leaving (inl has) = effects.enders i program g numbers note k later t a.task b.task p q (above left in_image) has
          by_leaving (inr over) = over.stands later

      -- what it gives to the caller that it has served
      gives : (o u : ℕ) (outer : List Action) → k.actions t ≡ Serves o u ∷ outer → GivesSame i program g numbers (note u) p q
      gives = by_leaving moved.leaves
        where
          by_leaving : HasEnded i program g numbers note k t a.task b.task p q ⊎ IsOver i program g numbers note k t is_open a.task b.task p q
              → (o u : ℕ) (outer : List Action) → k.actions t ≡ Serves o u ∷ outer → GivesSame i program g numbers (note u) p q
          by_leaving (inl has) = has.gives
          by_leaving (inr over) = over.gives

      -- where a queued call is taken over no handler is over
      ended_only : (o u : ℕ) → ending_of is_open (k.actions t) k.queued ≡ TakesOver o u → HasEnded i program g numbers note k t a.task b.task p q
      ended_only o u is = by_leaving moved.leaves
        where
          by_leaving : HasEnded i program g numbers note k t a.task b.task p q ⊎ IsOver i program g numbers note k t is_open a.task b.task p q
              → HasEnded i program g numbers note k t a.task b.task p q
          by_leaving (inl has) = has
          by_leaving (inr over) = absurd (true≢false (sym over.over ∙ takes_goes_on t e k o u is))

      -- the task for whose call the place tells it waits for that
      call_of : (o u : ℕ) → awaited (k.place u) ≡ Some o → IsWaiting program o (c.tasks u).work
      call_of o u awaits = waiting program c.memory o (awaited (k.place u)) (c.tasks u) awaits (world.tasks u)

      takes_over : (o u : ℕ) → ending_of is_open (k.actions t) k.queued ≡ TakesOver o u → IsOwed note e a.task b.task p q (TakesOver o u)
      takes_over o u is =
          let there = known.runner.reaches e in
          let caller = there.queued o u is in
          let queued_there : k.queued o ≡ Some u = caller.0 in
          let waits = call_of o u (ap awaited caller.1) in
          let queues = queue_by (TakesOver o u) is in
          let both =
          effects.servers i program g numbers this.has note k later t o u a.task (c.tasks u) b.task (d.tasks u) p q waits.q waits.vs waits.xs waits.items
          (ended_only o u is)
          (record { on = on; running = not_running u caller.2; queued = queued_there; work = waits.work; entry = waits.entry })
          (gone o u queued_there queues)
          (known.stand u (known.others.bounded.queued o u queued_there)) in
          ((λ in_image. both.0), (λ in_image. both.1), λ v other unlike. under_same later v other (stay o u v unlike queued_there queues) (back o u v queues))
        where
          -- the caller is queued nowhere any more
          gone : (o u : ℕ) → k.queued o ≡ Some u → later.queued ≡ put o None k.queued → (p' : ℕ) → later.queued p' ≢ Some u
          gone o u queued_there queues p' is =
              of_put (λ x. x ≡ Some u) ⊥ o p' None k.queued (sym (ap (λ f. f p') queues) ∙ is)
              (λ same mine. absurd cc)
              (λ unlike here.
              let one : k.place u ≡ IsQueued p' = kept.sound.queue p' u here in
              let two : k.place u ≡ IsQueued o = kept.sound.queue o u queued_there in
              let same : p' ≡ o = cc in
              unlike same)

          stay : (o u v : ℕ) → v ≢ u → k.queued o ≡ Some u → later.queued ≡ put o None k.queued → (p' : ℕ) → k.queued p' ≡ Some v → later.queued p' ≡ Some v
          stay o u v unlike queued_there queues p' is =
              ap (λ f. f p') queues
              ∙ put_other o p' None k.queued
              (λ same.
              let one : k.queued p' ≡ Some u = ap k.queued same ∙ queued_there in
              let two : k.queued p' ≡ Some v = is in
              let e' : u ≡ v = cc in
              unlike (sym e'))
              ∙ is

          back : (o u v : ℕ) → later.queued ≡ put o None k.queued → (p' : ℕ) → later.queued p' ≡ Some v → k.queued p' ≡ Some v
          back o u v queues p' is =
              of_put (λ x. x ≡ Some v) (k.queued p' ≡ Some v) o p' None k.queued (sym (ap (λ f. f p') queues) ∙ is)
              (λ same mine. absurd cc)
              (λ unlike here. here)

      hands : (u : ℕ) → ending_of is_open (k.actions t) k.queued ≡ HandsBack u → IsOwed note e a.task b.task p q (HandsBack u)
      hands u is =
          let there = known.runner.reaches e in
          let caller = there.served u is in
          let o = caller.0 in
          let serves = hands_back is_open (k.actions t) k.queued u is in
          let waits = call_of o u (ap awaited caller.1) in (
            goes_on (left_handing u caller.2 is),
            (λ in_image.
                effects.served i program g numbers note k later u (c.tasks u) (d.tasks u) p q waits.q waits.vs waits.xs waits.items schedule
                (gives serves.0 u serves.1 serves.2)
                (record { on = on; running = not_running u caller.2; queued = nowhere o u caller.1; work = waits.work })
                (known.stand u in_image)),
            λ v other unlike. same_queues later (queue_by (HandsBack u) is) v other,
          )
        where
          nowhere : (o u : ℕ) → k.place u ≡ IsServed o → (p' : ℕ) → k.queued p' ≢ Some u
          nowhere o u served p' queued =
              let one : k.place u ≡ IsServed o = served in
              let two : k.place u ≡ IsQueued p' = kept.sound.queue p' u queued in
              absurd cc

      ends_owed : (x : Ending) → ending_of is_open (k.actions t) k.queued ≡ x → IsOwed note e a.task b.task p q x
      ends_owed Closes is = (goes_on (left_closed is), λ v other. same_queues later (queue_by Closes is) v other)
      ends_owed (TakesOver o u) is = takes_over o u is
      ends_owed (HandsBack u) is = hands u is

    -- ---- all effects

    pub owed : (e : Effect) (a : Solo Store TaskWork) (b : Solo Words TaskState) (p : Option GivenToCaller) (q : Option steps.Given) → HasMoved e a b p q
        → (next : Note) × IsOwed next e a.task b.task p q (ending k t e)
    owed Quiet a b p q moved = (note, plain Quiet refl a.task b.task p q moved.leaves)
    owed Finishes a b p q moved = (note, plain Finishes refl a.task b.task p q moved.leaves)
    owed Breaks a b p q moved = (note, plain Breaks refl a.task b.task p q moved.leaves)
    owed (Says label value) a b p q moved = (note, plain (Says label value) refl a.task b.task p q moved.leaves)
    owed (Delays until) a b p q moved = (note, plain (Delays until) refl a.task b.task p q moved.leaves.1)
    owed (Opens o) a b p q moved = (note, plain (Opens o) refl a.task b.task p q moved.leaves)
    owed (Views o) a b p q moved = (note, plain (Views o) refl a.task b.task p q moved.leaves)
    owed (Dies x) a b p q moved = (note, plain (Dies x) refl a.task b.task p q moved.leaves)
    owed (Queues o) a b p q moved = (put t moved.leaves.addresses note, queued_owed o a b p q moved)
    owed (Ends is_open) a b p q moved = (note, ends_owed is_open a b p q moved (ending_of is_open (k.actions t) k.queued) refl)
