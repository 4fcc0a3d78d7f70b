-- The end of an action: who can be served, and who can go on.
use Rattle.std.proofs.Common.{length-set, ◌≡◌, inl, ℕ, ◌+◌, ◌<◌, ◌≤◌, List, [], ◌∷◌, length, Bool, true, false, cond, Option, Some, None, refl, sym, ap, ◌∙◌, subst, arith, ⊎_elim}
use Rattle.std.proofs.lemmas.Bool.{cases_lt}
use Rattle.std.specs.Prelude.{◌&&◌, not, slice_set}
use Rattle.base.specs.declared.limits.TheConstants.{FRAMES}
use Rattle.base.specs.declared.schedule.ScheduleLine.{ScheduleLine}
use Rattle.kernel.specs.Effects as effects
use Rattle.kernel.specs.Effects.{TakesOver, HandsBack, closes_last, ending_of, is_last, is_over, service}
use Rattle.kernel.specs.Invariant.{HasAction, ServesCall}
use Rattle.kernel.specs.Laws.{ReachesCallers}
use Rattle.kernel.specs.PutLaws.{put_other, put_same, same_or_not}
use Rattle.kernel.specs.State.{Action, Reads, Writes, Serves, Kernel, TaskPlace, IsRunning, IsQueued, IsServed, IsFinished, is_task, put}
use Rattle.kernel.specs.Worlds.{is_handler_over, reached}
use Rattle.image.specs.Code.{initial_state}
use Rattle.image.specs.Frames.{Frame, TaskState, frames_counted}
use Rattle.image.specs.Operations.{entry_called, results_of}
use Rattle.image.specs.Rules.{IsWellFormed}
use Rattle.image.specs.Sections.{Sections}
use Rattle.image.specs.Steps as steps
use Rattle.image.specs.Steps.{behaviour, is_open}
use Rattle.image_laws.specs.Laws.{CodeLeadsOn, ImagesHaveSize}
use Rattle.image_laws.specs.Linked.{Fitting, FitsEntry, IsAwaiting, IsCalling, OwesFor}
use Rattle.image_laws.specs.Room.{widest}
use Rattle.image_laws.specs.Shape.{is_own}
use Rattle.image_laws.specs.Whole.{RunnerOwes}
use Rattle.task_steps.specs.Acting.{given_of}
use Rattle.task_steps.specs.declared.acts.Act.{Act}
use Rattle.task_steps.specs.declared.acts.Effect.TheVariants as acts
use Rattle.task_steps.specs.declared.acts.Given.{Given}
use Rattle.tasking.specs.Held.{kernel_of}
use Rattle.execution.specs.Held.{HeldWorld, row_at, row_of, task_at, tasks_of}
use Rattle.execution.specs.Settling.{CanReceive, CanServe, IsBeyond, Owes, RunsThere, given_tasks, words_given}
use Rattle.execution.proofs.Entries.{entry_is, room_for}
use Rattle.execution.proofs.Tasks.{at_row, at_task, row_low, task_put, task_row}

not_handed : (b : Bool) (o : ℕ) (queued : Option ℕ) (u : ℕ) → service b o queued ≡ HandsBack u → ⊥
not_handed false o queued u e = cc
not_handed true o None u e = cc
not_handed true o (Some v) u e = cc

-- who hands back serves the caller
pub record Hands (actions : List Action) (u : ℕ) : Type 0 where
  pub o : ℕ
  pub outer : List Action
  pub is : actions ≡ Serves o u ∷ outer

hands : (b : Bool) (actions : List Action) (queued : ℕ → Option ℕ) (u : ℕ) → ending_of b actions queued ≡ HandsBack u → Hands actions u
hands b [] queued u e = absurd cc
hands b (Reads o ∷ outer) queued u e = absurd cc
hands b (Writes o ∷ outer) queued u e = absurd (not_handed b o (queued o) u e)
hands b (Serves o v ∷ outer) queued u e = record { o = o; outer = outer; is = ap (λ x. Serves o x ∷ outer) same }
  where
    same : v ≡ u
    same = cc

given_fits : (i : Sections) (o u : ℕ) (outer : List Action) (g : Option steps.Given) → Fitting i (Serves o u ∷ outer) g → (x : steps.Given) × (g ≡ Some x) × FitsEntry i o x
given_fits i o u outer None f = absurd f
given_fits i o u outer (Some x) f = (x, refl, f)

fewer : (i : Sections) (o : ℕ) (x : steps.Given) (room : ℕ) → FitsEntry i o x → room + results_of (entry_called i o) ≤ widest i → room + words_given x ≤ widest i
fewer i o (steps.Results words) room f le = omega (arith, f, le)
fewer i o (steps.Raised e) room f le = omega (arith, le)

-- who takes a call over is not over
closes_never : (outer : List Action) (o u : ℕ) → closes_last outer (TakesOver o u) ≡ false
closes_never [] o u = refl
closes_never (a ∷ outer) o u = refl

never_last : (actions : List Action) (o u : ℕ) → is_last actions (TakesOver o u) ≡ false
never_last [] o u = refl
never_last (Reads p ∷ outer) o u = refl
never_last (Writes p ∷ outer) o u = closes_never outer o u
never_last (Serves p v ∷ outer) o u = closes_never outer o u

pub served_goes_on : (k : Kernel) (t : ℕ) (b : Bool) (o u : ℕ) → ending_of b (k.actions t) k.queued ≡ TakesOver o u → is_handler_over k t (effects.Ends b) ≡ false
served_goes_on k t b o u is =
    ap (is_over k.partition t (k.actions t)) is ∙ ap (λ v. v && not (is_task k.partition t)) (never_last (k.actions t) o u)

-- a handler's lowest frame counts for nothing, and there is room for it
counted : (own : Bool) (fs : List Frame) → frames_counted own fs + 1 ≤ FRAMES → length fs < FRAMES
counted true fs le = omega (arith, le)
counted false fs le = omega (arith, le)

module _ (reaches : ReachesCallers) (owe : RunnerOwes) (leads : CodeLeadsOn) (size : ImagesHaveSize) (h : HeldWorld) (w : IsWellFormed h.image)
    (count : length h.tasks ≡ length h.image.tasks + 1) (t : ℕ) (there : RunsThere h.image h.tasking.handler t) (b : Bool) (given : Option Given) where
  abbrev the_act : Act
  the_act = record { effect = acts.Ends b; given = given }

  abbrev k : Kernel
  k = kernel_of h.tasking

  module _ (o : Owes h t the_act) where
    owed : OwesFor h.image (is_own h.image t) (k.actions t) (effects.Ends b) (given_of h.memory.passed given) (tasks_of h t)
    owed =
        subst (λ r. OwesFor h.image (is_own h.image t) (k.actions t) r.effect r.given r.solo.task) o.did
        (owe h.image w h.schedule (record { kernel = k; rest = o.before }) t o.whole o.runs.running)

    -- a caller is a task, since handlers neither wait nor are served
    caller_low : (u : ℕ) (p : TaskPlace) → k.place u ≡ p → (p ≡ IsFinished → ⊥) → (p ≡ IsRunning → ⊥) → u < length h.image.tasks
    caller_low u p is not_finished not_running =
        ⊎_elim
        (λ lt. lt)
        (λ le.
        let beyond : k.partition.tasks ≤ u = (let e = ap (λ q. q.tasks) o.whole.partition in omega (arith, le, e)) in
        ⊎_elim
        (λ e. absurd (not_finished (sym is ∙ e)))
        (λ r. absurd (not_running (sym is ∙ o.whole.kept.sound.runs u r)))
        (o.whole.kept.sound.gone u beyond))
        (cases_lt u (length h.image.tasks))

    -- another task is as it was before the step
    as_before : (u : ℕ) → (u ≡ t → ⊥) → u < length h.image.tasks → o.before.tasks u ≡ row_at h.image h.tasks u
    as_before u ne low =
        sym (ap (λ f. f u) o.others ∙ put_other t u (tasks_of h t) o.before.tasks ne) ∙ at_task h.image h.tasking.handler h.tasks u low

    pub can_serve : (object u : ℕ) → ending_of b (k.actions t) k.queued ≡ TakesOver object u → CanServe h.image h.tasks t object u
    can_serve object u is =
        let r = (reaches (is_open h.image o.before.memory) k t (effects.Ends b) o.runs.running o.whole.kept).queued object u is in
        let low : u < length h.image.tasks = caller_low u (IsQueued object) r.1 (λ e. cc) (λ e. cc) in
        let calling = subst (IsCalling h.image (is_own h.image u) object) (as_before u r.2 low) (o.whole.linked.calling object u r.0) in
        let e = entry_is h.image w leads size object (is_own h.image u) (row_at h.image h.tasks u) calling in
        let row = at_row h.image h.tasking.handler h.tasks t there.here in
        record {
          n = e.n;
          s = e.s;
          entry = e.entry;
          is_called = e.is_called;
          task = let r = row_low h.image t in omega (arith, r, count);
          caller = low;
          other = r.2;
          there = e.there;
          fits = e.fits;
          room = e.room;
          left = subst (λ v. length v.callers < FRAMES) row (counted (is_own h.image t) (tasks_of h t).callers owed.0);
        }

    pub caller_of : (u : ℕ) → ending_of b (k.actions t) k.queued ≡ HandsBack u → (u < length h.image.tasks) × (u ≡ t → ⊥)
    caller_of u is =
        let r = (reaches (is_open h.image o.before.memory) k t (effects.Ends b) o.runs.running o.whole.kept).served u is in
        (caller_low u (IsServed r.0) r.1 (λ e. cc) (λ e. cc), r.2)

    pub can_receive : (u : ℕ) → ending_of b (k.actions t) k.queued ≡ HandsBack u → CanReceive h.image h.tasks u (given_of h.memory.passed given)
    can_receive u is =
        let c = caller_of u is in
        let s = hands b (k.actions t) k.queued u is in
        let has = subst (HasAction (ServesCall s.o u)) (sym s.is) (inl (refl, refl)) in
        let awaiting = subst (IsAwaiting h.image (is_own h.image u) s.o) (as_before u c.1 c.0) (o.whole.linked.awaiting t s.o u has) in
        let place = room_for h.image w leads size s.o (is_own h.image u) (row_at h.image h.tasks u) awaiting in
        let g = given_fits h.image s.o u s.outer (given_of h.memory.passed given) (subst (λ x. Fitting h.image x (given_of h.memory.passed given)) s.is owed.1) in
        record { given = g.0; is = g.1; caller = c.0; next = place.next; room = fewer h.image s.o g.0 _ g.2 place.room }

-- ---- the rows once the caller has what it is given

pub given_size : (i : Sections) (rows : List TaskState) (u : ℕ) (g : Option steps.Given) → length rows ≡ length i.tasks + 1 → length (given_tasks i rows u g) ≡ length i.tasks + 1
given_size i rows u None size = size
given_size i rows u (Some g) size = length-set rows u (steps.receives g (row_at i rows u)) ∙ size

module _ (i : Sections) (handler : Option ℕ) (rows : List TaskState) (schedule : List ScheduleLine) (t u : ℕ) (beyond : IsBeyond i handler) (low : u < length i.tasks)
    (other : u ≡ t → ⊥) (size : length rows ≡ length i.tasks + 1) (over : Bool) where
  abbrev f : ℕ → TaskState
  f = task_at i handler rows

  abbrev left : ℕ → TaskState
  left = put t (cond over (initial_state i t) (f t)) f

  module _ (x : steps.Given) where
    abbrev r : TaskState
    r = steps.receives x (row_at i rows u)

    abbrev given_rows : List TaskState
    given_rows = slice_set rows u r

    given_at : (v : ℕ) → task_at i handler given_rows v ≡ put u r f v
    given_at v =
        let row : row_of i u ≡ u = task_row i u low in
        let lt : row_of i u < length rows = omega (arith, row, low, size) in
        ap (λ n. task_at i handler (slice_set rows n r) v) (sym row) ∙ task_put i handler rows beyond u (inl low) r lt v

    -- the caller is none of those that the step changed
    caller_is : r ≡ steps.receives x (left u)
    caller_is = ap (steps.receives x) (sym (at_task i handler rows u low) ∙ sym (put_other t u (cond over (initial_state i t) (f t)) f other))

    own_at : task_at i handler given_rows t ≡ f t
    own_at = given_at t ∙ put_other u t r f (λ e. other (sym e))

    put_given : (v : ℕ) → put t (cond over (initial_state i t) (task_at i handler given_rows t)) (task_at i handler given_rows) v ≡ put u (steps.receives x (left u)) left v
    put_given v =
        ⊎_elim
        (λ e.
        put_same t v (cond over (initial_state i t) (task_at i handler given_rows t)) (task_at i handler given_rows) e
        ∙ (ap (cond over (initial_state i t)) own_at
        ∙ sym (put_other u v (steps.receives x (left u)) left (λ g. other (sym g ∙ e)) ∙ put_same t v (cond over (initial_state i t) (f t)) f e)))
        (λ ne.
        put_other t v (cond over (initial_state i t) (task_at i handler given_rows t)) (task_at i handler given_rows) ne
        ∙ (given_at v
        ∙ ⊎_elim
        (λ e. put_same u v r f e ∙ (caller_is ∙ sym (put_same u v (steps.receives x (left u)) left e)))
        (λ nu.
        put_other u v r f nu
        ∙ sym (put_other u v (steps.receives x (left u)) left nu ∙ put_other t v (cond over (initial_state i t) (f t)) f ne))
        (same_or_not v u)))
        (same_or_not v t)

  pub given_put : (g : Option steps.Given) (v : ℕ)
      → put t (cond over (initial_state i t) (task_at i handler (given_tasks i rows u g) t)) (task_at i handler (given_tasks i rows u g)) v
      ≡ reached (behaviour i schedule) t (HandsBack u) g left v
  given_put None v = refl
  given_put (Some x) v = put_given x v
