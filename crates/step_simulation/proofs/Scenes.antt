-- A step of a task and the frame that stands for its work: how steps meet, exceptions on their way, items without code, ways out.
use Rattle.std.proofs.Common.{◌≡◌, ℕ, suc, ◌+◌, ◌-◌, ◌<◌, ◌≤◌, ◌⊎◌, inl, inr, ⊎_elim, ℤ, List, [], ◌∷◌, length, Option, Some, None, refl, sym, ap, ◌∙◌, subst, arith, true, Bool, false, cond}
use Rattle.part_code.specs.base.specs.declared.schedule.ScheduleLine.{ScheduleLine}
use Rattle.part_code.specs.base.specs.declared.limits.TheConstants.{FRAMES}
use Rattle.kernel.specs.State.{Kernel, is_task}
use Rattle.kernel.specs.Effects.{Quiet, Finishes, Breaks, Delays, Dies, Effect, Ends, Opens, Queues, Says, Views}
use Rattle.kernel.specs.Worlds.{Solo, is_handler_over, restarted}
use Rattle.std.proofs.lemmas.Bool.{le-ltb, true≢false}
use Rattle.kernel.proofs.Left.{over_gone}
use Rattle.kernel.specs.Calm.{Calm}
use Rattle.kernel.specs.Counting.{Spends, Done}
use Rattle.kernel.specs.Laws.{QuietStays}
use Rattle.kernel.specs.RunLaws.{spends_trans, spends_more}
use Rattle.part_code.specs.image.specs.Sections.{Sections}
use Rattle.part_code.specs.image.specs.Frames.{Inner, Words, Frame, TaskState, object_words, own_object, Role, frames_counted}
use Rattle.part_code.specs.image.specs.Code.{initial_state}
use Rattle.part_code.specs.image.specs.Steps as steps
use Rattle.part_code.specs.image.specs.Steps.{act, behaviour, does_operation}
use Rattle.part_code.specs.image.specs.declared.instruction.Operation.{Operation}
use Rattle.part_code.specs.image.specs.declared.instruction.Operation.TheVariants as op
use Rattle.part_code.specs.image.specs.declared.instruction.Region.{Region}
use Rattle.part_code.specs.image.specs.declared.instruction.Region.TheVariants as regions
use Rattle.part_code.specs.ada_tree.specs.StatementTree.{Null, Exit, Return}
use Rattle.part_code.specs.types.specs.Evaluations.{Val, Gives, Raises, Meaningless}
use Rattle.part_code.specs.types.specs.Evaluating.{Calls, call}
use Rattle.part_code.specs.types.specs.Places.{Place}
use Rattle.step_soundness.specs.meaning.specs.Meeting.{Takes, Last, OwnStep, Over, Within, taken, spent, Met}
use Rattle.step_soundness.specs.meaning.specs.MeetingLaws.{spends_takes, still_by, moves_by, walks_by, quiet_takes, unrestarted}
use Rattle.step_soundness.specs.meaning.specs.Lifting.{taken_unseen}
use Rattle.step_soundness.specs.meaning.specs.Programs.{Program, program_partition}
use Rattle.step_soundness.specs.meaning.specs.SameMeaning.{frames_of}
use Rattle.step_soundness.specs.meaning.specs.Source.{initial_work}
use Rattle.step_soundness.specs.meaning.specs.SourceSteps as source
use Rattle.step_soundness.specs.meaning.specs.SourceSteps.{frames_here, here_of, place_of, program_behaviour, with_value, work_step}
use Rattle.step_soundness.specs.meaning.specs.Works.{Item, Does, Goes, Activation, Store, TaskWork}
use Rattle.step_soundness.specs.meaning.specs.Works as works
use Rattle.step_soundness.specs.Holding.{IsSoundStep}
use Rattle.step_soundness.specs.Laws.{Premises, StepsAreSound}
use Rattle.step_soundness.specs.Objects.{IsException}
use Rattle.step_soundness.specs.Opened.{opened_in}
use Rattle.part_code.specs.expr_code.specs.Views.{At, IsSameTask, View, frames_above, in_frame, placed, view_of}
use Rattle.part_code.specs.expr_code.specs.Coming.{Comes, Throws, most_steps, size_of}
use Rattle.part_code.specs.expr_code.specs.Computing.{Everywhere}
use Rattle.part_code.specs.expr_code.specs.Seeing.{Package, Sees, SeesPackage, library_of}
use Rattle.part_code.specs.expr_code.proofs.Coming.{acts}
use Rattle.part_code.specs.expr_code.proofs.Coming as coming
use Rattle.part_code.specs.Resting.{Framed, HeldWord, IsAddressable, Knows, NarrowsFrame, Rests, RestsWith, Shows, StandsFor}
use Rattle.part_code.specs.Handling.{GoesBy}
use Rattle.part_code.specs.Statements.{Numbers}
use Rattle.part_code.specs.Jumping.{Here, Jumps, There}
use Rattle.step_simulation.specs.Standing.{AreQueuesClosed, Around, Catches, CodeStands, Follows, Going, Inside, IsGoingOn, LeadsByWays, LeavesBy, Note, Raised, RaisesNext, frames_in, items_size, relation, with_visible, work_size}
use Rattle.step_simulation.specs.Laws.{HasCode, IsKnownHere}
use Rattle.step_simulation.proofs.Going.{Drops, earlier, jumps_up, shows_then, way_back, way_out}
use Rattle.step_simulation.proofs.Catching.{catches, HaveRoom}
use Rattle.step_soundness.specs.InSubtypes.{CallersLie}
use Rattle.step_soundness.specs.expr_soundness.specs.Lying.{ObjectsLie, PlaceLies}
use Rattle.part_code.specs.base.specs.Schedule.{are_lines}

-- what is known where a task takes a step: of the image, of the program, and of both sides
pub record Scene : Type 0 where
  pub quiet : QuietStays
  pub step_soundness : StepsAreSound
  pub i : Sections
  pub program : Program
  pub g : Package
  pub numbers : Numbers
  pub has : HasCode i program g numbers
  pub premises : Premises program
  pub schedule : List ScheduleLine
  pub note : Note
  pub k : Kernel
  pub t : ℕ
  pub calm : Calm k t
  pub store : Store
  pub m : Words
  pub shares : StandsFor program g store m
  pub w : TaskWork
  pub known : IsKnownHere program k t store w
  pub inputs : are_lines schedule ≡ true

module _ (this : Scene) where
  abbrev quiet : QuietStays
  quiet = this.quiet

  abbrev step_soundness : StepsAreSound
  step_soundness = this.step_soundness

  abbrev i : Sections
  i = this.i

  abbrev program : Program
  program = this.program

  abbrev g : Package
  g = this.g

  abbrev numbers : Numbers
  numbers = this.numbers

  abbrev has : HasCode i program g numbers
  has = this.has

  abbrev premises : Premises program
  premises = this.premises

  abbrev schedule : List ScheduleLine
  schedule = this.schedule

  abbrev k : Kernel
  k = this.k

  abbrev t : ℕ
  t = this.t

  abbrev calm : Calm k t
  calm = this.calm

  abbrev store : Store
  store = this.store

  abbrev m : Words
  m = this.m

  abbrev shares : StandsFor program g store m
  shares = this.shares

  abbrev w : TaskWork
  w = this.w

  abbrev known : IsKnownHere program k t store w
  known = this.known

  abbrev pub now : source.Here
  now = here_of program schedule k t (record { memory = store; task = w })

  -- the next step of the task is met from this state of the frames
  abbrev pub MetFrom : TaskState → Type 0
  MetFrom s = Met (program_behaviour program schedule) (behaviour i schedule) (relation i program g numbers) frames_of (most_steps i) this.note k t
      (record { memory = store; task = w }) (record { memory = m; task = s })

  -- at once, or by one instruction of the same subprogram, with which the code of a handler begins
  pub data ComesTo (b s : TaskState) : Type 0 where
    AtOnce : b ≡ s → ComesTo b s
    Keeping : act i schedule k t (record { memory = m; task = b }) ≡ steps.does Quiet m s.frame s.callers None None → s.raising ≡ None
        → b.callers ≡ s.callers → b.frame.subprogram ≡ s.frame.subprogram → 0 < size_of i s.frame.subprogram
        → ComesTo b s

  -- ... from each state that comes to this one
  abbrev pub Meet : TaskState → Type 0
  Meet s = (b : TaskState) → ComesTo b s → MetFrom b

  abbrev pub Setting : Type 0
  Setting = Around i program g numbers

  abbrev pub seeing : Framed → Setting → Setting
  seeing v a = with_visible i program g numbers v a

  abbrev pub In : ℕ → ℕ → Type 0
  In n place = Inside i program g numbers n place

  abbrev pub Follow : Setting → (n from : ℕ) → List Item → Role → List Frame → List Activation → Type 0
  Follow a n from items above waiting = Follows i program g numbers this.note a n from items above waiting

  -- ---- the step of the source is sound

  pub step_sound : IsSoundStep now (opened_in (source.items_of w.work)) (work_step now w.work)
  step_sound = step_soundness program schedule k t (record { memory = store; task = w }) premises known.store known.task

  module _ (x : source.SourceStepped) (is : work_step now w.work ≡ x) where
    step_is : IsSoundStep now (opened_in (source.items_of w.work)) x
    step_is = subst (λ y. IsSoundStep now (opened_in (source.items_of w.work)) y) is step_sound

  -- what is raised is an exception
  pub raises_known : (x : ℕ) (items : List Item) → work_step now w.work ≡ source.raises now x items → IsException program x
  raises_known x items is = (step_is (source.raises now x items) is).task.work.0

  -- where the task may call the entry of an object in whose queue a call waits, the barrier is closed
  pub queues_closed : AreQueuesClosed i program g numbers k t m
  queues_closed o u queued free below = sym (has.barriers store m o known.store known.values shares) ∙ known.closed o u queued free below

  -- no step of a sound task is without meaning
  pub has_meaning : (items : List Item) → work_step now w.work ≡ source.means_nothing now items → ⊥
  has_meaning items is = let e = (step_is (source.means_nothing now items) is).effect.3 in omega (arith, e)

  -- ---- what is seen

  small_object : (o : Option ℕ) → length (object_words o m) ≤ 65536
  small_object None = omega arith
  small_object (Some o) = shares.objects o

  pub is_small : (f : Frame) → length f.locals ≤ 65536 → (fs : List Frame) → IsAddressable (view_of i schedule k t m f fs)
  is_small f small fs regions.Locals = small
  is_small f small fs regions.Plain = shares.plain
  is_small f small fs regions.Object = small_object (own_object i f)

  -- the task has the open actions, the base priority and the ceilings that the kernel knows
  same_task : (items : List Item) (f : Frame) (fs : List Frame) → IsSameTask (place_of now items) (view_of i schedule k t m f fs)
  same_task items f fs = (refl, refl, ap (λ q. q.ceiling) (sym known.partition))

  -- all that is there lies in its subtypes, whichever activation of the task runs
  place_lies : (items : List Item) (a : Activation) → ObjectsLie program.scope a.locals
      → PlaceLies (let p : Place = record (place_of now items) { locals = a.locals; within = a.within } in p)
  place_lies items a lying = record {
    variables = known.values.variables;
    components = known.values.components;
    locals = lying;
    time = known.time;
    inputs = this.inputs;
  }

  pub sees_package : (items : List Item) (f : Frame) (fs : List Frame) → length f.locals ≤ 65536
      → SeesPackage g (place_of now items) (view_of i schedule k t m f fs)
  sees_package items f fs small =
      shares.shared (place_of now items) (view_of i schedule k t m f fs)
      (record { scope = refl; functions = refl; variables = refl; components = refl }) refl refl (same_task items f fs) refl refl (is_small f small fs)
      (known.store.functions (place_of now items)) (place_lies items w.own known.objects.own)

  -- a frame has the words of its own that it ought to have
  has_room : (a : Activation) → ObjectsLie program.scope a.locals → (v : Framed) (locals : List ℤ) → Rests g v a locals → v.room ≤ length locals
  has_room a lying v locals rests =
      let f : Frame = record { subprogram = 0; place = 0; locals = locals; stack = []; role = Inner } in
      let p : Place = record (place_of now []) { locals = a.locals; within = a.within } in
      let view : View = record (view_of i schedule k t m f []) { words = words_for locals a.within } in
      (rests.sees p view
      (shares.shared p view (record { scope = refl; functions = refl; variables = refl; components = refl }) refl refl (same_task [] f []) refl refl
      small (known.store.functions p) (place_lies [] a lying)) refl refl refl refl).room
    where
      -- those of a frame of some body of the object
      words_for : List ℤ → Option ℕ → Region → List ℤ
      words_for locals within regions.Locals = locals
      words_for locals within regions.Plain = m.plain
      words_for locals within regions.Object = object_words within m

      small : (r : Region) → length (words_for locals a.within r) ≤ 65536
      small regions.Locals = rests.small
      small regions.Plain = shares.plain
      small regions.Object = small_object a.within

  -- those of the task's activations have
  pub have_room : HaveRoom i program g numbers this.note (w.own ∷ w.callers)
  have_room = (has_room w.own known.objects.own, waiting w.callers known.objects.callers)
    where
      waiting : (callers : List Activation) → CallersLie program.scope callers → HaveRoom i program g numbers this.note callers
      waiting [] lying = tt
      waiting (a ∷ callers) lying = (has_room a lying.0, waiting callers lying.1)

  pub sees_here : {held : List HeldWord} (v : Framed) (items : List Item) (f : Frame) (fs : List Frame) → RestsWith g v held w.own f.locals
      → own_object i f ≡ w.own.within → Knows g v (place_of now items) (view_of i schedule k t m f fs)
  sees_here v items f fs rests object =
      rests.rests.sees (place_of now items) (view_of i schedule k t m f fs) (sees_package items f fs rests.rests.small) refl refl refl
      (ap (λ o. object_words o m) object)

  -- as many frames are left to the frame of code as to the work
  pub frames_same : (items : List Item) (fs : List Frame) → length fs ≡ frames_in items → frames_here now items ≡ frames_above k t fs
  frames_same items fs depth = by_task (is_task k.partition t)
    where
      by_task : (b : Bool) → works.frames_left b items ≡ FRAMES - frames_counted b fs
      by_task true = omega (arith, depth)
      by_task false = omega (arith, depth)

  -- what code computes, the frame comes to
  pub evaluates : {A : Type 0} {held : List HeldWord} (v : Framed) (from to : ℕ) (stack : List ℤ → A → List ℤ) (value : Calls → Place
      → Val A) (items : List Item) (f : Frame) (fs : List Frame)
      → Everywhere i (library_of g) (Sees g v.names) from to stack value → RestsWith g v held w.own f.locals → own_object i f ≡ w.own.within
      → length fs ≡ frames_in items
      → Comes i schedule k t m (placed f from []) fs (to - from) to (stack []) (value (call (frames_here now items)) (place_of now items))
  evaluates v from to stack value items f fs h rests object depth =
      h (call (frames_here now items)) (frames_here now items) (has.functions (frames_here now items)) schedule k t m f fs (place_of now items) [] calm
      (sees_here v items f fs rests object).sees
      (frames_same items fs depth)

  -- ---- steps of code

  -- steps up to one that is to be taken: none before it, or some
  pub begun : {d n : ℕ} {k' l : Kernel} {s r : Solo Words TaskState} (x : Takes (behaviour i schedule) t frames_of (most_steps i) d n k' s l r)
      → (s ≡ r) ⊎ ((j : ℕ) × (taken (behaviour i schedule) t frames_of (most_steps i) x ≡ suc (suc j)))
  begun (Last here) = inl refl
  begun (OwnStep alone here rest) = let x = taken_unseen (behaviour i schedule) t frames_of (most_steps i) rest in inr (x.0, ap suc x.1)
  begun (Over alone here above low rest) =
      let x = taken_unseen (behaviour i schedule) t frames_of (most_steps i) rest in
      let j = spent (behaviour i schedule) t frames_of (most_steps i) above in
      let e = x.1 in
      inr (j + x.0, ap suc (plus j (taken (behaviour i schedule) t frames_of (most_steps i) rest) x.0 e))
    where
      plus : (j a b : ℕ) → a ≡ suc b → j + a ≡ suc (j + b)
      plus j a b e = omega (arith, e)
  begun (Within alone here above low) = let x = taken_unseen (behaviour i schedule) t frames_of (most_steps i) above in inr (x.0, ap suc x.1)

  -- forward jumps, and then what comes
  pub jumps_spend : (f : Frame) (fs : List Frame) (a b : ℕ) → Jumps i a b
      → Spends (behaviour i schedule) t frames_of (most_steps i) (suc (length fs)) (b - a) k (in_frame m (placed f a []) fs) k (in_frame m (placed f b []) fs)
  jumps_spend f fs a b Here = Done
  jumps_spend f fs a b (There {b = c} here le rest) =
      let up = jumps_up i program g numbers c b rest in
      let e : 1 + (b - c) ≤ b - a = omega (arith, le, up) in
      spends_more (behaviour i schedule) t frames_of (most_steps i) (b - a) e
      (spends_trans (behaviour i schedule) t frames_of (most_steps i) (b - c) k (in_frame m (placed f b []) fs)
      (coming.steps quiet i schedule k t m calm (placed f a []) (placed f c []) fs (acts quiet i a (op.Jump c) here schedule k t m f fs []))
      (jumps_spend f fs c b rest))

  -- jumps, one of which may lead back to the head of a loop
  abbrev pub Reaching : Frame → List Frame → (n from to : ℕ) → Type 0
  Reaching f fs n from to = Spends (behaviour i schedule) t frames_of (most_steps i) (suc (length fs)) n k (in_frame m (placed f from []) fs) k
      (in_frame m (placed f to []) fs)

  -- ---- how steps meet

  -- what code stands for after a step of the source with this effect
  pub record Meets (x : source.SourceStepped) (y : steps.Stepped) : Type 0 where
    pub effect : y.effect ≡ x.effect
    pub leaves : LeavesBy i program g numbers this.note k t x.effect x.solo.task y.solo.task x.given y.given
    pub words : StandsFor program g x.solo.memory y.solo.memory

  -- no more steps than a frame may take, and fewer where its subprogram has code
  abbrev pub IsLow : TaskState → ℕ → Type 0
  IsLow s n = (n ≤ most_steps i s) × (0 < size_of i s.frame.subprogram → n < most_steps i s)

  -- as many as it may take: the first of them may be one that leads there
  abbrev Led : TaskState → Solo Words TaskState → Type 0
  Led b c = (n : ℕ) × Takes (behaviour i schedule) t frames_of (most_steps i) (frames_of b) n k (record { memory = m; task = b }) k c × (n ≤ most_steps i b)

  led : (b s : TaskState) (n : ℕ) (c : Solo Words TaskState) → ComesTo b s
      → Takes (behaviour i schedule) t frames_of (most_steps i) (frames_of s) n k (record { memory = m; task = s }) k c → IsLow s n → Led b c
  led b s n c (AtOnce e) all low = subst (λ q. Led q c) (sym e) (n, all, low.0)
  led b s n c (Keeping there going callers subprogram some) all low =
      let frames : frames_of s ≡ frames_of b = ap (λ l. suc (length l)) (sym callers) in
      let most : most_steps i s ≡ most_steps i b = ap (λ p. suc (size_of i p + size_of i p)) (sym subprogram) in
      let here : ((behaviour i schedule).act k t (record { memory = m; task = b })).solo ≡ record { memory = m; task = s } =
      ap (λ y. (restarted (initial_state i t) k t y).solo) there ∙ (λ j. record { memory = m; task = record { frame = s.frame; callers = s.callers; raising = (sym going) j } }) in (
        suc n,
        quiet_takes (behaviour i schedule) t frames_of (most_steps i) quiet k calm (record { memory = m; task = b }) (record { memory = m; task = s })
            (ap (λ y. y.effect) there) here refl
            (subst (λ d. Takes (behaviour i schedule) t frames_of (most_steps i) d n k (record { memory = m; task = s }) k c) frames all),
        (let less = low.1 some in omega (arith, less, most)),
      )

  -- a quiet step, met by steps up to one that is still to be taken, if there are any
  pub quiet_from : (s : TaskState) (n : ℕ) (c : TaskState) (x : source.SourceStepped) → work_step now w.work ≡ x → x.effect ≡ Quiet → x.solo.memory ≡ store
      → Takes (behaviour i schedule) t frames_of (most_steps i) (frames_of s) n k (record { memory = m; task = s }) k (record { memory = m; task = c })
      → IsLow s n
      → ((s' : TaskState) → s' ≡ c → CodeStands i program g numbers this.note k t x.solo.task s')
      → work_size x.solo.task.work < work_size w.work
      → Meet s
  quiet_from s n c x is e same all low stands less = λ b from.
      let sh : StandsFor program g x.solo.memory m = subst (λ q. StandsFor program g q m) (sym same) shares in
      let l = led b s n (record { memory = m; task = c }) from all low in
      let whole = ap (λ q. restarted (initial_work program t) k t q) is ∙ unrestarted (initial_work program t) k t x (ap (is_handler_over k t) e) in
      ⊎_elim
      (λ stays. still_by (program_behaviour program schedule) (behaviour i schedule) (relation i program g numbers) frames_of (most_steps i) this.note k t
      (record { memory = store; task = w }) (record { memory = m; task = b })
      x whole e sh (stands b (ap (λ q. q.task) stays)) less)
      (λ j. walks_by (program_behaviour program schedule) (behaviour i schedule) (relation i program g numbers) frames_of (most_steps i) this.note k t
      (record { memory = store; task = w }) (record { memory = m; task = b })
      j.0 l.0 (record { memory = m; task = c }) x whole l.1 j.1 l.2 e sh (stands c refl))
      (begun l.1)

  -- where a handler is over, both sides hold what its next start needs

  no_task : (e : Effect) → is_handler_over k t e ≡ true → is_task (program_partition program) t ≡ false
  no_task e over = ap (λ p. is_task p t) (sym known.partition) ∙ le-ltb t k.partition.tasks (over_gone t e k over).0

  over_leaves : (e : Effect) (x : source.SourceStepped) (y : steps.Stepped) → is_handler_over k t e ≡ true
      → LeavesBy i program g numbers this.note k t e x.solo.task y.solo.task x.given y.given
      → LeavesBy i program g numbers this.note k t e (initial_work program t) (initial_state i t) x.given y.given
  over_leaves (Ends b) x y over leaves =
      let at = known.attached (no_task (Ends b) over) in
      inr (record {
        over = over;
        stands = λ l. has.restarts this.note l t at.0 (no_task (Ends b) over) at.1;
        gives = ⊎_elim (λ h. h.gives) (λ h. h.gives) leaves;
      })
  over_leaves Quiet x y over leaves = absurd (true≢false (sym over))
  over_leaves (Says label value) x y over leaves = absurd (true≢false (sym over))
  over_leaves (Delays until) x y over leaves = absurd (true≢false (sym over))
  over_leaves (Opens o) x y over leaves = absurd (true≢false (sym over))
  over_leaves (Views o) x y over leaves = absurd (true≢false (sym over))
  over_leaves (Queues o) x y over leaves = absurd (true≢false (sym over))
  over_leaves Finishes x y over leaves = absurd (true≢false (sym over))
  over_leaves (Dies z) x y over leaves = absurd (true≢false (sym over))
  over_leaves Breaks x y over leaves = absurd (true≢false (sym over))

  pub restart_leaves : (x : source.SourceStepped) (y : steps.Stepped) → Meets x y
      → LeavesBy i program g numbers this.note k t x.effect (restarted (initial_work program t) k t x).solo.task
      (restarted (initial_state i t) k t y).solo.task x.given y.given
  restart_leaves x y meets = by_over (is_handler_over k t x.effect) refl
    where
      -- the effect of the code's step is the same
      tasks : (b : Bool) → is_handler_over k t x.effect ≡ b
          → LeavesBy i program g numbers this.note k t x.effect (cond b (initial_work program t) x.solo.task) (cond b (initial_state i t) y.solo.task) x.given y.given
          → LeavesBy i program g numbers this.note k t x.effect (restarted (initial_work program t) k t x).solo.task
          (restarted (initial_state i t) k t y).solo.task x.given y.given
      tasks b e leaves =
          let other : is_handler_over k t y.effect ≡ b = ap (is_handler_over k t) meets.effect ∙ e in
          subst (λ u. LeavesBy i program g numbers this.note k t x.effect u (restarted (initial_state i t) k t y).solo.task x.given y.given)
          (sym (ap (λ c. cond c (initial_work program t) x.solo.task) e))
          (subst (λ v. LeavesBy i program g numbers this.note k t x.effect (cond b (initial_work program t) x.solo.task) v x.given y.given)
          (sym (ap (λ c. cond c (initial_state i t) y.solo.task) other)) leaves)

      by_over : (b : Bool) → is_handler_over k t x.effect ≡ b
          → LeavesBy i program g numbers this.note k t x.effect (restarted (initial_work program t) k t x).solo.task
          (restarted (initial_state i t) k t y).solo.task x.given y.given
      by_over true e = tasks true e (over_leaves x.effect x y e meets.leaves)
      by_over false e = tasks false e meets.leaves

  -- a step that is met by the last of some steps
  pub moves_from : (s : TaskState) (n : ℕ) (c : Solo Words TaskState) (x : source.SourceStepped) (y : steps.Stepped) → work_step now w.work ≡ x
      → act i schedule k t c ≡ y
      → Takes (behaviour i schedule) t frames_of (most_steps i) (frames_of s) n k (record { memory = m; task = s }) k c
      → IsLow s n
      → Meets x y
      → Meet s
  moves_from s n c x y is there all low meets = λ b from.
      let l = led b s n c from all low in
      moves_by (program_behaviour program schedule) (behaviour i schedule) (relation i program g numbers) frames_of (most_steps i) this.note k t
      (record { memory = store; task = w }) (record { memory = m; task = b })
      l.0 c (restarted (initial_work program t) k t x) (restarted (initial_state i t) k t y) (ap (λ q. restarted (initial_work program t) k t q) is)
      (ap (λ q. restarted (initial_state i t) k t q) there) l.1 l.2 meets.effect meets.words (restart_leaves x y meets)

  pub met_quiet_on : (base : List ℤ) (f : Frame) (fs : List Frame) (n : ℕ) (c : TaskState) (x : source.SourceStepped) → work_step now w.work ≡ x
      → x.effect ≡ Quiet
      → x.solo.memory ≡ store
      → (all : Takes (behaviour i schedule) t frames_of (most_steps i) (suc (length fs)) n k (in_frame m (placed f f.place base) fs) k
      (record { memory = m; task = c }))
      → n < most_steps i (in_frame m f fs).task
      → ((s : TaskState) → s ≡ c → CodeStands i program g numbers this.note k t x.solo.task s)
      → work_size x.solo.task.work < work_size w.work
      → Meet (in_frame m (placed f f.place base) fs).task
  met_quiet_on base f fs n c x is e same all low stands less =
      quiet_from (in_frame m (placed f f.place base) fs).task n c x is e same all (omega (arith, low), λ some. low) stands less

  -- wherever in this part of the code the value is raised, there is what takes it
  abbrev pub Handled : {A : Type 0} → Frame → List Frame → Val A → List Item → (from to : ℕ) → Type 0
  Handled f fs v items from to =
      (x place : ℕ) (left : List ℤ) → IsException program x → v ≡ Raises x → from ≤ place → place < to → Catches i program g numbers this.note x
      (placed f place left) fs w.own w.callers items

  -- a step of the source that evaluates: what raises is met, and what has no meaning is excluded
  pub met_value_on : {A : Type 0} (base start : List ℤ) (f : Frame) (fs : List Frame) (n from n' to : ℕ) (stack : A → List ℤ) (v : Val A)
      (items : List Item) (go : A → source.SourceStepped)
      → Spends (behaviour i schedule) t frames_of (most_steps i) (suc (length fs)) n k (in_frame m (placed f f.place base) fs) k
      (in_frame m (placed f from start) fs)
      → Comes i schedule k t m (placed f from start) fs n' to stack v
      → n + n' < size_of i f.subprogram + size_of i f.subprogram
      → work_step now w.work ≡ with_value now v items go
      → items_size items < work_size w.work
      → Handled f fs v items from to
      → ((x : A) → v ≡ Gives x → work_step now w.work ≡ go x
      → Spends (behaviour i schedule) t frames_of (most_steps i) (suc (length fs)) (n + n') k (in_frame m (placed f f.place base) fs) k
      (in_frame m (placed f to (stack x)) fs)
      → Meet (in_frame m (placed f f.place base) fs).task)
      → Meet (in_frame m (placed f f.place base) fs).task
  met_value_on base start f fs n from n' to stack (Gives x) items go first comes low is less handled last =
      last x refl is (spends_trans (behaviour i schedule) t frames_of (most_steps i) n' k (in_frame m (placed f to (stack x)) fs) first comes)
  met_value_on base start f fs n from n' to stack (Raises x) items go first comes low is less handled last =
      let place = comes.1 in
      let left = comes.2 in
      let f' = placed f place left in
      let raised = source.raises now x items in
      let all = spends_takes (behaviour i schedule) t frames_of (most_steps i) (suc n') k (record { memory = m; task = comes.0 }) first comes.3 in
      let stands : (s : TaskState) → Throws i k t x s f' fs → CodeStands i program g numbers this.note k t raised.solo.task s =
      λ s throws. Raised x items f' fs refl calm.runs.running (record { raises = λ schedule' m' closed. throws.throws schedule' k m' refl refl })
      (handled x place left (raises_known x items is) refl comes.4 comes.5) in
      met_quiet_on base f fs (n + suc n') comes.0 raised is refl refl all (omega (arith, low)) (λ s e. stands s (subst (λ q. Throws i k t x q f' fs)
      (sym e) comes.6)) less
  met_value_on base start f fs n from n' to stack Meaningless items go first comes low is less handled last = absurd (has_meaning items is)

  -- ... and is then met by the code's last instruction
  pub met_comes_on : {A : Type 0} (base start : List ℤ) (f : Frame) (fs : List Frame) (n from n' to : ℕ) (stack : A → List ℤ) (v : Val A)
      (items : List Item) (go : A → source.SourceStepped)
      → Spends (behaviour i schedule) t frames_of (most_steps i) (suc (length fs)) n k (in_frame m (placed f f.place base) fs) k
      (in_frame m (placed f from start) fs)
      → Comes i schedule k t m (placed f from start) fs n' to stack v
      → n + n' < size_of i f.subprogram + size_of i f.subprogram
      → work_step now w.work ≡ with_value now v items go
      → items_size items < work_size w.work
      → Handled f fs v items from to
      → ((x : A) → v ≡ Gives x → (y : steps.Stepped) × (act i schedule k t (in_frame m (placed f to (stack x)) fs) ≡ y) × Meets (go x) y)
      → Meet (in_frame m (placed f f.place base) fs).task
  met_comes_on base start f fs n from n' to stack v items go first comes low is less handled last =
      met_value_on base start f fs n from n' to stack v items go first comes low is less handled
      (λ x ev there spends.
      let y = last x ev in
      moves_from (in_frame m (placed f f.place base) fs).task ((n + n') + 1) (in_frame m (placed f to (stack x)) fs) (go x) y.0 there y.1
      (spends_takes (behaviour i schedule) t frames_of (most_steps i) 1 k (in_frame m (placed f to (stack x)) fs) spends (Last refl))
      (omega (arith, low), λ some. omega (arith, low)) y.2)

  -- ... from an empty operand stack
  pub met_quiet : (f : Frame) (fs : List Frame) (n : ℕ) (c : TaskState) (x : source.SourceStepped) → work_step now w.work ≡ x → x.effect ≡ Quiet
      → x.solo.memory ≡ store
      → (all : Takes (behaviour i schedule) t frames_of (most_steps i) (suc (length fs)) n k (in_frame m (placed f f.place []) fs) k
      (record { memory = m; task = c }))
      → n < most_steps i (in_frame m f fs).task
      → ((s : TaskState) → s ≡ c → CodeStands i program g numbers this.note k t x.solo.task s)
      → work_size x.solo.task.work < work_size w.work
      → Meet (in_frame m (placed f f.place []) fs).task
  met_quiet f fs n c x = met_quiet_on [] f fs n c x

  -- the frame has come to an instruction that raises
  pub met_raises : (f : Frame) (fs : List Frame) (n place : ℕ) (left : List ℤ) (x : ℕ) (items : List Item) → work_step now w.work ≡ source.raises now x items
      → Spends (behaviour i schedule) t frames_of (most_steps i) (suc (length fs)) n k (in_frame m (placed f f.place []) fs) k
      (in_frame m (placed f place left) fs)
      → n < size_of i f.subprogram + size_of i f.subprogram
      → items_size items < work_size w.work
      → Catches i program g numbers this.note x (placed f place left) fs w.own w.callers items
      → RaisesNext i program g numbers k t x (in_frame m (placed f place left) fs).task (placed f place left) fs
      → Meet (in_frame m (placed f f.place []) fs).task
  met_raises f fs n place left x items is first low less caught raises =
      met_quiet f fs (n + 1) (in_frame m (placed f place left) fs).task (source.raises now x items) is refl refl
      (spends_takes (behaviour i schedule) t frames_of (most_steps i) 1 k (in_frame m (placed f place left) fs) first (Last refl)) (omega (arith, low))
      (λ s e. Raised x items (placed f place left) fs refl calm.runs.running
      (subst (λ q. RaisesNext i program g numbers k t x q (placed f place left) fs) (sym e) raises) caught)
      less

  pub met_value : {A : Type 0} (f : Frame) (fs : List Frame) (n from n' to : ℕ) (stack : A → List ℤ) (v : Val A) (items : List Item)
      (go : A → source.SourceStepped)
      → Reaching f fs n f.place from
      → Comes i schedule k t m (placed f from []) fs n' to stack v
      → n + n' < size_of i f.subprogram + size_of i f.subprogram
      → work_step now w.work ≡ with_value now v items go
      → items_size items < work_size w.work
      → Handled f fs v items from to
      → ((x : A) → v ≡ Gives x → work_step now w.work ≡ go x
      → Spends (behaviour i schedule) t frames_of (most_steps i) (suc (length fs)) (n + n') k (in_frame m (placed f f.place []) fs) k
      (in_frame m (placed f to (stack x)) fs)
      → Meet (in_frame m (placed f f.place []) fs).task)
      → Meet (in_frame m (placed f f.place []) fs).task
  met_value f fs n from n' to stack v items go = met_value_on [] [] f fs n from n' to stack v items go

  pub met_comes : {A : Type 0} (f : Frame) (fs : List Frame) (n from n' to : ℕ) (stack : A → List ℤ) (v : Val A) (items : List Item)
      (go : A → source.SourceStepped)
      → Reaching f fs n f.place from
      → Comes i schedule k t m (placed f from []) fs n' to stack v
      → n + n' < size_of i f.subprogram + size_of i f.subprogram
      → work_step now w.work ≡ with_value now v items go
      → items_size items < work_size w.work
      → Handled f fs v items from to
      → ((x : A) → v ≡ Gives x → (y : steps.Stepped) × (act i schedule k t (in_frame m (placed f to (stack x)) fs) ≡ y) × Meets (go x) y)
      → Meet (in_frame m (placed f f.place []) fs).task
  met_comes f fs n from n' to stack v items go = met_comes_on [] [] f fs n from n' to stack v items go

  -- no step of code, and what is left to do is less
  pub met_still : (s : TaskState) (x : source.SourceStepped) → work_step now w.work ≡ x → x.effect ≡ Quiet → x.solo.memory ≡ store
      → CodeStands i program g numbers this.note k t x.solo.task s
      → work_size x.solo.task.work < work_size w.work
      → Meet s
  met_still s x is e same stands less =
      quiet_from s 1 s x is e same (Last refl) (omega arith, λ some. omega (arith, some))
      (λ s' there. subst (λ q. CodeStands i program g numbers this.note k t x.solo.task q) (sym there) stands)
      less

  -- ---- going on

  pub going_is : (s : TaskState) → s.frame.stack ≡ [] → s.raising ≡ None → s ≡ (in_frame m (placed s.frame s.frame.place []) s.callers).task
  going_is s stack going = λ j. record { frame = placed s.frame s.frame.place (stack j); callers = s.callers; raising = going j }

  -- the frame at another place with these locals
  abbrev pub goes_at : Frame → ℕ → List ℤ → Frame
  goes_at f place locals = record { subprogram = f.subprogram; place = place; locals = locals; stack = []; role = f.role }

  module _ (s : TaskState) where
    abbrev pub f : Frame
    f = s.frame

    abbrev pub fs : List Frame
    fs = s.callers

    abbrev pub IsAtItems : List Item → Type 0
    IsAtItems items = IsGoingOn i program g numbers this.note items w.own w.callers s

    -- the same frame goes on elsewhere
    pub goes_on : (items : List Item) (own : Activation) (a : Setting) (place : ℕ) (locals : List ℤ) → Follow a f.subprogram place items f.role fs w.callers
        → RestsWith g a.visible a.held own locals
        → own_object i f ≡ own.within → length fs ≡ frames_in items
        → IsGoingOn i program g numbers this.note items own w.callers (record { frame = goes_at f place locals; callers = fs; raising = None })
    goes_on items own a place locals follows rests object depth =
        record {
          around = a;
          follows = follows;
          rests = rests;
          object = object;
          stack = refl;
          going = refl;
          depth = depth;
        }

    pub shown : (a b : Framed) (own : Activation) (locals : List ℤ) → Shows g a b → Rests g a own locals → Rests g b own locals
    shown a b own locals shows rests = record {
      small = rests.small;
      sees = λ p view shared one two three four. shows p view
          (rests.sees p view shared one two three four);
    }

    pub narrowed : {held : List HeldWord} (a b : Framed) (own : Activation) (locals : List ℤ) → NarrowsFrame g a b → RestsWith g a held own locals
        → RestsWith g b held own locals
    narrowed a b own locals nar rests = record {
      rests = shown a b own locals nar.shows rests.rests;
      held = rests.held;
      apart = rests.apart ∙ nar.reserved;
    }

    -- what takes the exceptions of these places, where the items follow
    pub handled_by : {A : Type 0} (a : Setting) (now' : Framed) (to : ℕ) (items : List Item) (v : Val A) (from' to' : ℕ)
        → Follow a f.subprogram to items f.role fs w.callers
        → GoesBy i a.raised from' to' → RestsWith g now' a.held w.own f.locals → now'.reserved ≡ a.visible.reserved → Shows g now' a.handling
        → own_object i f ≡ w.own.within
        → length fs ≡ frames_in items → Handled f fs v items from' to'
    handled_by a now' to items v from' to' follows goes rests same shows object depth = λ x place left known is low high.
        catches i program g numbers this.note items x (placed f place left) fs w.own w.callers have_room
        (record {
          around = a;
          from = to;
          follows = follows;
          known = known;
          goes = goes place x low high;
          rests = shown now' a.handling w.own f.locals shows rests.rests;
          held = rests.held;
          apart = rests.apart ∙ same;
          object = object;
          depth = depth;
        })

    -- a step without a value: jumps, and one instruction
    pub met_plain : (o : Operation) (x : source.SourceStepped) (y : steps.Stepped) (at : ℕ) (items : List Item) → work_step now w.work ≡ x → s.frame.stack ≡ []
        → s.raising ≡ None
        → Jumps i f.place at → In f.subprogram f.place → In f.subprogram at
        → At i at o
        → does_operation i schedule k t m (placed f at []) fs o ≡ y
        → Meets x y
        → Meet s
    met_plain o x y at items is stack going jumps a b here there meets =
        let up = jumps_up i program g numbers f.place at jumps in
        subst Meet (sym (going_is s stack going))
        (moves_from (in_frame m (placed f f.place []) fs).task ((at - f.place) + 1) (in_frame m (placed f at []) fs) x y is
        (acts quiet i at o here schedule k t m f fs [] ∙ there)
        (spends_takes (behaviour i schedule) t frames_of (most_steps i) 1 k (in_frame m (placed f at []) fs) (jumps_spend f fs f.place at jumps) (Last refl))
        (omega (arith, a.0, b.1, up), λ some. omega (arith, a.0, b.1, up)) meets)

    -- it goes on with other items at a place, and nothing else changes
    pub goes_to : (items : List Item) (a : Setting) (place : ℕ) → Follow a f.subprogram place items f.role fs w.callers
        → RestsWith g a.visible a.held w.own f.locals → own_object i f ≡ w.own.within → length fs ≡ frames_in items
        → Meets (source.goes now items) (steps.does Quiet m (goes_at f place f.locals) fs None None)
    goes_to items a place follows rests object depth = record {
      effect = refl;
      leaves = Going items refl (goes_on items w.own a place f.locals follows rests object depth);
      words = shares;
    }

    pub met_end : w.work ≡ Goes [] → (h : IsAtItems []) → Meet s
    met_end is h =
        let r = h.follows in
        let out = r.0 in
        let at = out.at in
        let up = jumps_up i program g numbers f.place at out.jumps in
        let x = out.from_inside in
        let y = out.to_inside in
        met_plain op.Return (source.works now Finishes (Goes [])) (steps.does Finishes m (goes_at f at f.locals) [] None None) at []
        (ap (λ q. work_step now q) is) h.stack h.going out.jumps x y out.return
        (ap (λ n. steps.returns i schedule k t m (placed f at []) fs n) out.results ∙ ap
        (λ q. steps.returns_to i schedule k t m (placed f at []) q q f.role []) r.2)
        (record {
          effect = refl;
          leaves = Going [] refl (record {
            around = h.around;
            follows = (
              (record {
                at = at;
                jumps = Here;
                return = out.return;
                results = out.results;
                outermost = out.outermost;
                from_inside = (omega (arith, x.0, up), omega (arith, y.1));
                to_inside = y;
              }),
              r.1,
              refl,
            );
            rests = h.rests;
            object = h.object;
            stack = refl;
            going = refl;
            depth = refl;
          });
          words = shares;
        })

    -- the code of the next items is reached by jumps
    pub reached : (a : Setting) (from at to : ℕ) (now' : Framed) (items : List Item) → LeadsByWays i program g numbers a f.subprogram from at to now'
        → Follow (seeing now' a) f.subprogram at items f.role fs w.callers
        → Follow (seeing a.visible a) f.subprogram from items f.role fs w.callers
    reached a from at to now' items leads follows =
        earlier i program g numbers this.note items (seeing now' a) a.visible f.subprogram from at f.role fs w.callers
        leads.jumps leads.narrows leads.from_inside follows

    -- nothing but what is left to do changes
    pub met_items : (x : source.SourceStepped) (items : List Item) → work_step now w.work ≡ source.goes now items → suc (items_size items) < work_size w.work
        → s.frame.stack ≡ [] → s.raising ≡ None
        → (a : Setting) → Follow a f.subprogram f.place items f.role fs w.callers → RestsWith g a.visible a.held w.own f.locals → own_object i f ≡ w.own.within
        → length fs ≡ frames_in items
        → Meet s
    met_items x items is less stack going a follows rests object depth =
        met_still s (source.goes now items) is refl refl
        (Going items refl (record {
          around = a;
          follows = follows;
          rests = rests;
          object = object;
          stack = stack;
          going = going;
          depth = depth;
        })) less

    pub met_null : (place : ℕ) (items : List Item) → w.work ≡ Goes (Does (Null place) ∷ items) → (h : IsAtItems (Does (Null place) ∷ items)) → Meet s
    met_null place items is h =
        let r = h.follows in
        met_items (source.goes now items) items (ap (λ q. work_step now q) is) (subst (λ q. suc (items_size items) < work_size q) (sym is) (omega arith))
        h.stack h.going
        (seeing h.around.visible h.around)
        (reached h.around f.place r.0 r.1 r.2 items r.3 (subst (λ q. Follow (seeing r.2 h.around) f.subprogram q items f.role fs w.callers) (sym r.4) r.5))
        h.rests h.object h.depth

    -- ---- ways out

    -- what is visible at a way out, and what is held there, where the frame goes on there
    pub way_rests : (a outer : Setting) (now' last : Framed) → RestsWith g a.visible a.held w.own f.locals → NarrowsFrame g a.visible now' → Shows g now' last
        → last ≡ outer.visible → Drops i program g numbers (seeing now' a) outer → RestsWith g outer.visible outer.held w.own f.locals
    way_rests a outer now' last rests one two e drops = record {
      rests = subst (λ q. Rests g q w.own f.locals) e (shown a.visible last w.own f.locals (shows_then g a.visible now' last one two) rests.rests);
      held = drops.held f.locals rests.held;
      apart = drops.apart (rests.apart ∙ one.reserved);
    }

    pub met_exit : (place : ℕ) (items : List Item) → w.work ≡ Goes (Does (Exit place None) ∷ items) → (h : IsAtItems (Does (Exit place None) ∷ items)) → Meet s
    met_exit place items is h =
        let r = h.follows in
        let leads = r.3 in
        let code = r.4 in
        let e = code.0 in
        let out = way_out i program g numbers this.note items (seeing r.2 h.around) f.subprogram r.1 e f.role fs w.callers r.5 code.1 in
        let x = leads.from_inside in
        let y = leads.to_inside in
        let up = jumps_up i program g numbers f.place r.0 leads.jumps in
        let end = code.3 in
        met_plain (op.Jump e) (source.goes now (source.behind_loop items)) (steps.does Quiet m (goes_at f e f.locals) fs None None) r.0 items
        (ap (λ q. work_step now q) is) h.stack h.going
        leads.jumps x (omega (arith, x.0, up), omega (arith, y.1, end)) code.2 refl
        (goes_to (source.behind_loop items) out.outer e out.follows
        (way_rests h.around out.outer r.2 h.around.behind h.rests leads.narrows leads.reaches.0 out.visible out.drops) h.object
        (h.depth ∙ sym out.ends))

    pub met_return : (place : ℕ) (items : List Item) → w.work ≡ Goes (Does (Return place None) ∷ items) → (h : IsAtItems (Does (Return place None) ∷ items))
        → Meet s
    met_return place items is h =
        let r = h.follows in
        let leads = r.3 in
        let code = r.4 in
        let e = code.0 in
        let out = way_back i program g numbers this.note items (seeing r.2 h.around) f.subprogram r.1 e f.role fs w.callers r.5 code.1 in
        let x = leads.from_inside in
        let y = leads.to_inside in
        let up = jumps_up i program g numbers f.place r.0 leads.jumps in
        let end = code.3 in
        met_plain (op.Jump e) (source.goes now (source.end_of_body items)) (steps.does Quiet m (goes_at f e f.locals) fs None None) r.0 items
        (ap (λ q. work_step now q) is) h.stack h.going
        leads.jumps x (omega (arith, x.0, up), omega (arith, y.1, end)) code.2 refl
        (goes_to (source.end_of_body items) out.end e out.follows
        (way_rests h.around out.end r.2 h.around.ending h.rests leads.narrows leads.reaches.1 out.visible out.drops) h.object
        (h.depth ∙ sym out.ends))
