-- Calls of functions: that their code gives their values, by induction on the frames that are left.
use Rattle.std.proofs.Common.{◌≡◌, ℕ, zero, suc, ◌+◌, ◌-◌, ◌<◌, ◌≤◌, ℤ, List, [], ◌∷◌, ◌++◌, length, Option, Some, None, Bool, true, false, cond, refl, sym, ap, ◌∙◌, subst, arith}
use Rattle.std.specs.Prelude.{map, reverse, take, replicate, pos, ⊤}
use Rattle.base.specs.Exceptions.{number_of}
use Rattle.base.specs.declared.exceptions.PredefinedException.{PredefinedException}
use Rattle.base.specs.declared.exceptions.PredefinedException.TheVariants.{ProgramError, StorageError}
use Rattle.base.specs.declared.limits.TheConstants.{FRAMES}
use Rattle.base.specs.declared.schedule.ScheduleLine.{ScheduleLine}
use Rattle.kernel.specs.State.{Kernel, Reads, is_object_open, object_of}
use Rattle.kernel.specs.Effects.{AboveCeiling, Closes, Ends, Quiet, Refusal, SameObject, Views, after, call_refusal, effect, ending_of, is_above_ceiling, is_over}
use Rattle.kernel.specs.Worlds.{ending, Solo, is_handler_over, restarted}
use Rattle.kernel.specs.Calm.{Calm}
use Rattle.kernel.specs.Counting.{Spends, Done}
use Rattle.kernel.specs.Laws.{QuietStays, ViewsBack, ViewsOn}
use Rattle.kernel.specs.PutLaws.{put_same}
use Rattle.kernel.specs.RunLaws.{spends_trans}
use Rattle.image.specs.Sections.{Sections, first_place, end_of, object_of as kind_object}
use Rattle.image.specs.Operations.{called as subprogram_called, results_of}
use Rattle.image.specs.Frames.{Words, Role, Inner, Opened, Frame, TaskState, frames_in_use, kind_of, object_words}
use Rattle.image.specs.Steps.{act, behaviour, is_open, unwind, does, caught, removed}
use Rattle.image.specs.Steps as step
use Rattle.image.specs.declared.instruction.Operation.TheVariants as op
use Rattle.image.specs.declared.subprograms.Kind.TheVariants.{ProtectedFunction}
use Rattle.types.specs.Entities.{ProtectedObject}
use Rattle.types.specs.Values.{Value}
use Rattle.types.specs.Shapes.{value_words}
use Rattle.types.specs.Evaluations.{Val, Gives, Raises, Meaningless, and_then, raise}
use Rattle.types.specs.Places.{Function, Place, ceiling_of}
use Rattle.types.specs.Evaluating.{Calls, call, called, entered, external_call, passed, value_with}
use Rattle.expr_soundness.specs.meaning.specs.Meeting.{Last}
use Rattle.expr_soundness.specs.meaning.specs.MeetingLaws.{quiet_spends, call_spends, call_takes, takes_more}
use Rattle.expr_soundness.specs.meaning.specs.SameMeaning.{frames_of}
use Rattle.expr_code.specs.Views.{At, IsSameTask, View, frames_above, in_frame, placed, view_of}
use Rattle.expr_code.specs.Coming.{all_on, all_words, Comes, most_steps, on, size_of}
use Rattle.expr_code.specs.Computing.{Answers, ArePassedTo, IsCalledThrough, IsFunctionCode, Library, call_operation, function_kind}
use Rattle.expr_code.proofs.Coming.{acts}
use Rattle.expr_code.proofs.CallFrames.{at_call, at_external, below, enters, enters_object, frames_more, full_object, inner, length_reverse, opened_frame, refused, refused_object, replicated, take_front}
use Rattle.expr_code.proofs.CallRefusals.{called_above, called_same, called_within, refusal_above, refusal_none, refusal_same, refusal_stays}
use Rattle.expr_code.proofs.CountedSteps.{calls_spend, calls_take, own_spends, taken_spends}
use Rattle.image.specs.Code.{initial_state}

-- ---- one call

module _ (quiet : QuietStays) (i : Sections) (library : Library) (function : Function) (g : ℕ) (is : IsFunctionCode i library function g) where
  small_enough : ⊤ → (is.mid - first_place i g) + 1 ≤ suc (size_of i g + size_of i g)
  small_enough u =
      let e : end_of (subprogram_called i g) ≡ is.s.end_ = ap end_of is.there in
      let b = is.behind in
      let w = is.within in
      subst (λ n. (is.mid - first_place i g) + 1 ≤ suc ((n - first_place i g) + (n - first_place i g))) (sym e) (omega (arith, b, w))

  -- at its end the function returns the words of its value to the frame that waits
  module _ (schedule : List ScheduleLine) (k : Kernel) (t : ℕ) (m : Words) (caller : Frame) (fs : List Frame) (locals : List ℤ) (role : Role) where
    abbrev last_of : Value → Frame
    last_of v = record { subprogram = g; place = is.mid; locals = locals; stack = on [] v; role = role }

    at_return : (v : Value) → length (value_words v) ≡ is.s.results
        → act i schedule k t (in_frame m (last_of v) (caller ∷ fs))
        ≡ step.returns_to i schedule k t m (last_of v) (caller ∷ fs) (caller ∷ fs) role (reverse (value_words v))
    at_return v size =
        let whole : on [] v ≡ reverse (value_words v) = append_nil (reverse (value_words v)) in
        let count : length (reverse (value_words v)) ≡ is.s.results = length_reverse (value_words v) ∙ size in
        acts quiet i is.mid op.Return is.return schedule k t m (last_of v) (caller ∷ fs) (on [] v)
        ∙ ap (λ n. step.returns i schedule k t m (last_of v) (caller ∷ fs) n) (ap results_of is.there)
        ∙ ap (λ b. cond b (step.returns_to i schedule k t m (last_of v) (caller ∷ fs) (caller ∷ fs) role (take is.s.results (on [] v)))
        (step.breaks i schedule k t m (last_of v) (caller ∷ fs)))
        (below is.s.results (length (on [] v)) (subst (λ ws. is.s.results ≤ length ws) (sym whole) (omega (arith, count))))
        ∙ ap (λ ws. step.returns_to i schedule k t m (last_of v) (caller ∷ fs) (caller ∷ fs) role ws) (taken size)
      where
        append_nil : (xs : List ℤ) → xs ++ [] ≡ xs
        append_nil [] = refl
        append_nil (x ∷ xs) = ap (λ l. x ∷ l) (append_nil xs)

        taken : length (value_words v) ≡ is.s.results → take is.s.results (on [] v) ≡ reverse (value_words v)
        taken size = ap (λ n. take n (on [] v)) (sym size ∙ sym (length_reverse (value_words v))) ∙ take_front (reverse (value_words v)) []

  -- ---- a call that opens no action

  module _ (schedule : List ScheduleLine) (k : Kernel) (t : ℕ) (m : Words) (f : Frame) (fs : List Frame) (place : ℕ) (base args : List ℤ) (here : At i place (op.Call g)) (many : length args ≡ is.s.parameters) where
    abbrev caller_at : Frame
    caller_at = at_call quiet i g is.s is.there schedule k t m f fs place base args here many

    abbrev callee : Frame
    callee = inner quiet i g is.s is.there schedule k t m f fs place base args here many

    -- what the callee's frame comes to, the caller's call comes to
    returned : (calm : Calm k t) (v : Val Value)
        → ((a : Value) → v ≡ Gives a → length (value_words a) ≡ is.s.results)
        → act i schedule k t (in_frame m caller_at fs) ≡ does Quiet m callee (placed f place base ∷ fs) None None
        → Comes i schedule k t m callee (placed f place base ∷ fs) (is.mid - first_place i g) is.mid (on []) v
        → Comes i schedule k t m caller_at fs 1 (suc place) (on base) v
    returned calm (Gives v) sized first h =
        let caller = placed f place base in
        let last = placed callee is.mid (on [] v) in
        let back = placed f (suc place) (on base v) in
        let next : place + 1 ≡ suc place = omega arith in
        let ret : act i schedule k t (in_frame m last (caller ∷ fs)) ≡ does Quiet m back fs None None =
        at_return schedule k t m caller fs callee.locals Inner v (sized v refl) ∙ (λ j. does Quiet m (placed f (next j) (on base v)) fs None None) in
        let one : Spends (behaviour i schedule) t frames_of (most_steps i) (suc (suc (length fs))) 1 k (in_frame m last (caller ∷ fs)) k (in_frame m back fs) =
        quiet_spends (behaviour i schedule) t frames_of (most_steps i) quiet k calm (in_frame m last (caller ∷ fs)) (in_frame m back fs) (ap (λ y. y.effect) ret)
        (ap (λ y. (restarted (initial_state i t) k t y).solo) ret) refl Done in
        call_spends (behaviour i schedule) t frames_of (most_steps i) quiet k calm (in_frame m caller_at fs) (in_frame m callee (caller ∷ fs)) (ap (λ y. y.effect) first)
        (ap (λ y. (restarted (initial_state i t) k t y).solo) first) refl
        (spends_trans (behaviour i schedule) t frames_of (most_steps i) 1 k (in_frame m back fs) h one) (small_enough tt) Done
    returned calm (Raises x) sized first h =
        let caller = placed f place base in
        let low = h.4 in
        let high = h.5 in (
          h.0,
          place,
          base,
          call_takes (behaviour i schedule) t frames_of (most_steps i) quiet k calm (in_frame m caller_at fs) (in_frame m callee (caller ∷ fs)) (ap (λ y. y.effect) first)
              (ap (λ y. (restarted (initial_state i t) k t y).solo) first) refl
              (takes_more (behaviour i schedule) t frames_of (most_steps i) ((is.mid - first_place i g) + 1) (omega arith) h.3) (small_enough tt),
          omega arith,
          omega arith,
          record {
            throws = λ schedule l m opened ranked.
                h.6.throws schedule l m opened ranked
                ∙ ap (λ o. caught i m x o (placed callee h.1 h.2) (caller ∷ fs) (unwind i m x caller fs)) (is.bare h.1 x low (omega (arith, high)));
          },
        )
    returned calm Meaningless sized first h = tt

  -- ---- a call that opens an action

  module _ (views : ViewsOn) (back : ViewsBack) (o : ℕ) (kind : is.s.kind ≡ ProtectedFunction o) (schedule : List ScheduleLine) (k : Kernel) (t : ℕ) (m : Words)
      (f : Frame) (fs : List Frame) (place : ℕ) (base args : List ℤ) (here : At i place (op.ProtectedCall g)) (many : length args ≡ is.s.parameters)
      (calm : Calm k t) where
    abbrev waiting : Frame
    waiting = placed f place base

    abbrev calling : Frame
    calling = at_external quiet i g is.s is.there o kind schedule k t m f fs place base args here many

    abbrev within : Frame
    within = opened_frame quiet i g is.s is.there o kind schedule k t m f fs place base args here many

    -- the kernel while the action is open, in which nobody else gets to run
    abbrev open_kernel : Kernel
    open_kernel = effect t (Views o) k

    opened_kernel : after t (Views o) k ≡ open_kernel
    opened_kernel = (views k t o calm).0

    opened_calm : Calm open_kernel t
    opened_calm = (views k t o calm).1

    closed_kernel : (b : Bool) → after t (Ends b) open_kernel ≡ k
    closed_kernel b = ap (λ y. after t (Ends b) y) (sym opened_kernel) ∙ back k t o b calm

    -- the end of a function's action is not that of a handler
    goes_on : (b : Bool) (s : Solo Words TaskState)
        → (let r : Solo Words TaskState = record {
          memory = s.memory;
          task = cond (is_handler_over open_kernel t (Ends b)) (initial_state i t) s.task;
        } in r) ≡ s
    goes_on b s =
        ap (λ c. (let r : Solo Words TaskState = record { memory = s.memory; task = cond c (initial_state i t) s.task } in r))
        (ap (λ l. is_over k.partition t l (ending_of b l k.queued)) (put_same t t (Reads o ∷ k.actions t) k.actions refl))

    closes : (b : Bool) → ending open_kernel t (Ends b) ≡ Closes
    closes b = ap (λ l. ending_of b l open_kernel.queued) (put_same t t (Reads o ∷ k.actions t) k.actions refl)

    -- what the callee's frame comes to, the caller's call comes to; an exception in a step of the caller's, once the action has ended
    returned_opened : (v : Val Value)
        → ((a : Value) → v ≡ Gives a → length (value_words a) ≡ is.s.results)
        → act i schedule k t (in_frame m calling fs) ≡ does (Views o) m within (waiting ∷ fs) None None
        → Comes i schedule open_kernel t m within (waiting ∷ fs) (is.mid - first_place i g) is.mid (on []) v
        → Comes i schedule k t m calling fs 1 (suc place) (on base) v
    returned_opened (Gives v) sized first h =
        let last = placed within is.mid (on [] v) in
        let there = placed f (suc place) (on base v) in
        let next : place + 1 ≡ suc place = omega arith in
        let b = is_open i m o in
        let ret : act i schedule open_kernel t (in_frame m last (waiting ∷ fs)) ≡ does (Ends b) m there fs None None =
        at_return schedule open_kernel t m waiting fs within.locals (Opened o) v (sized v refl)
        ∙ (λ j. does (Ends b) m (placed f (next j) (on base v)) fs None None) in
        let one : Spends (behaviour i schedule) t frames_of (most_steps i) (suc (suc (length fs))) 1 open_kernel (in_frame m last (waiting ∷ fs)) k
        (in_frame m there fs) =
        own_spends (behaviour i schedule) t frames_of (most_steps i) open_kernel k (in_frame m last (waiting ∷ fs)) (in_frame m there fs) (Ends b)
        opened_calm.runs (ap (λ y. y.effect) ret) (ap (λ y. (restarted (initial_state i t) open_kernel t y).solo) ret ∙ goes_on b (in_frame m there fs))
        (closes b) (closed_kernel b) refl Done in
        calls_spend (behaviour i schedule) t frames_of (most_steps i) k open_kernel (in_frame m calling fs) (in_frame m within (waiting ∷ fs)) (Views o)
        calm.runs (ap (λ y. y.effect) first) (ap (λ y. (restarted (initial_state i t) k t y).solo) first) refl opened_kernel refl
        (spends_trans (behaviour i schedule) t frames_of (most_steps i) 1 k (in_frame m there fs) h one) (small_enough tt) Done
    returned_opened (Raises x) sized first h =
        let low = h.4 in
        let high = h.5 in
        let b = is_open i m o in
        let left : TaskState = record { frame = waiting; callers = fs; raising = Some x } in
        let ends : act i schedule open_kernel t (record { memory = m; task = h.0 }) ≡ does (Ends b) m waiting fs (Some x) None =
        h.6.throws schedule open_kernel m refl refl
        ∙ ap (λ y. caught i m x y (placed within h.1 h.2) (waiting ∷ fs) (removed i m x (Opened o) waiting fs (unwind i m x waiting fs)))
        (is.bare h.1 x low (omega (arith, high))) in
        let above : Spends (behaviour i schedule) t frames_of (most_steps i) (suc (suc (length fs))) ((is.mid - first_place i g) + 1) open_kernel
        (in_frame m within (waiting ∷ fs)) k (record { memory = m; task = left }) =
        taken_spends (behaviour i schedule) t frames_of (most_steps i) open_kernel k (record { memory = m; task = h.0 }) (record { memory = m; task = left })
        (Ends b) opened_calm.runs (ap (λ y. y.effect) ends)
        (ap (λ y. (restarted (initial_state i t) open_kernel t y).solo) ends ∙ goes_on b (record { memory = m; task = left })) (closes b) (closed_kernel b)
        (takes_more (behaviour i schedule) t frames_of (most_steps i) ((is.mid - first_place i g) + 1) (omega arith) h.3) in (
          left,
          place,
          base,
          calls_take (behaviour i schedule) t frames_of (most_steps i) k open_kernel (in_frame m calling fs) (in_frame m within (waiting ∷ fs)) (Views o)
              calm.runs (ap (λ y. y.effect) first) (ap (λ y. (restarted (initial_state i t) k t y).solo) first) refl opened_kernel refl above (small_enough tt) (Last refl),
          omega arith,
          omega arith,
          record { throws = λ schedule l m opened ranked. refl },
        )
    returned_opened Meaningless sized first h = tt

-- ---- all calls

module _ (quiet : QuietStays) (views : ViewsOn) (back : ViewsBack) (i : Sections) (library : Library)
    (codes : (function : Function) (g : ℕ) → library.coded function g → IsFunctionCode i library function g)
    (sound : (left : ℕ) → library.sound (call left))
    (same_task : (p : Place) (view : View) → library.shared p view → IsSameTask p view)
    (opens : (p : Place) (view : View) (o : ℕ) → library.shared p view
    → library.shared (record p { actions = o ∷ p.actions }) (record view { actions = o ∷ view.actions })) where
  module _ (schedule : List ScheduleLine) (k : Kernel) (t : ℕ) (m : Words) (f : Frame) (fs : List Frame) (p : Place) (place : ℕ) (base : List ℤ)
      (function : Function) (g : ℕ) (args : List Value) (calm : Calm k t) (shared : library.shared p (view_of i schedule k t m f fs))
      (coded : library.coded function g) (passes : ArePassedTo library function args) where
    abbrev is : IsFunctionCode i library function g
    is = codes function g coded

    abbrev words : List ℤ
    words = all_words args

    abbrev view : View
    view = view_of i schedule k t m f fs

    abbrev start : Frame
    start = placed f place (all_on base args)

    abbrev caller : Frame
    caller = placed f place base

    -- what the call comes to
    abbrev Arrives : Val Value → Type 0
    Arrives v = Comes i schedule k t m start fs 1 (suc place) (on base) v

    many : length words ≡ is.s.parameters
    many = is.parameters args passes.0

    raises_at_once : (x : PredefinedException)
        → ((schedule : List ScheduleLine) (l : Kernel) (m : Words) → l.actions t ≡ k.actions t → l.partition ≡ k.partition
        → act i schedule l t (in_frame m start fs) ≡ unwind i m (number_of x) start fs)
        → Arrives (raise x)
    raises_at_once x h = ((in_frame m start fs).task, place, all_on base args, Last refl, omega arith, omega arith, record { throws = h })

    -- without an action of its own

    -- all frames are in use, in each kernel like this one
    all_used : 0 ≡ frames_above k t fs → (l : Kernel) → l.partition ≡ k.partition → FRAMES ≤ frames_in_use l.partition t fs
    all_used e l ranked = subst (λ p. FRAMES ≤ frames_in_use p t fs) (sym ranked) (omega (arith, e))

    plain_full : 0 ≡ frames_above k t fs → At i place (op.Call g) → Arrives (call zero p function args)
    plain_full e here =
        raises_at_once StorageError
        (λ schedule l m opened ranked. refused quiet i g is.s is.there schedule l t m f fs place base words here many (all_used e l ranked))

    -- there is one that is not, and the others are left to the callee
    one_left : (left : ℕ) → suc left ≡ frames_above k t fs → frames_in_use k.partition t fs < FRAMES
    one_left left e = omega (arith, e)

    left_above : (left : ℕ) (l : Kernel) (f : Frame) → l.partition ≡ k.partition → suc left ≡ frames_above k t fs → left ≡ frames_above l t (f ∷ fs)
    left_above left l f ranked e =
        let more = ap (λ p. frames_in_use p t (f ∷ fs)) ranked ∙ frames_more k.partition t f fs in omega (arith, e, more)

    plain_call : (left : ℕ) → Answers i library (call left) left → suc left ≡ frames_above k t fs → At i place (op.Call g)
        → Arrives (call (suc left) p function args)
    plain_call left answers e here =
        let frame = inner quiet i g is.s is.there schedule k t m f fs place base words here many in
        let first = enters quiet i g is.s is.there schedule k t m f fs place base words here many (one_left left e) in
        let there = entered p function args left in
        let seen = view_of i schedule k t m frame (caller ∷ fs) in
        let sees = is.enters p view seen args left (replicate (is.s.locals - is.s.parameters) (pos 0)) shared passes refl refl
        (same_task p view shared) refl refl (replicated (is.s.locals - is.s.parameters)) refl (ap (λ o. object_words (kind_object (kind_of o)) m) is.there) (sym (left_above left k caller refl e)) in
        returned quiet i library function g is schedule k t m f fs place base words here many calm
        (and_then (value_with (call left) there function.value) (passed function.result))
        (λ a ea. is.sized (call left) there seen a (sound left) sees ea) first
        (is.body (call left) left answers schedule k t m frame (caller ∷ fs) there [] calm sees (left_above left k caller refl e))

    -- through the name of an object

    module _ (o : ProtectedObject) (owner : function.object ≡ Some o.number) (here : At i place (op.ProtectedCall g)) where
      kind : is.s.kind ≡ ProtectedFunction o.number
      kind = is.kind ∙ ap function_kind owner

      -- where the body is evaluated
      abbrev inside : Place
      inside = record p { actions = o.number ∷ p.actions }

      object_full : 0 ≡ frames_above k t fs → call_refusal k t o.number ≡ None → Arrives (call zero inside function args)
      object_full e none =
          raises_at_once StorageError
          (λ schedule l m opened ranked.
          full_object quiet i g is.s is.there o.number kind schedule l t m f fs place base words here many (refusal_stays k l t o.number opened ranked ∙ none)
          (all_used e l ranked))

      object_call : (left : ℕ) → Answers i library (call left) left → suc left ≡ frames_above k t fs → call_refusal k t o.number ≡ None
          → Arrives (call (suc left) inside function args)
      object_call left answers e none =
          let frame = opened_frame quiet i g is.s is.there o.number kind schedule k t m f fs place base words here many in
          let first = enters_object quiet i g is.s is.there o.number kind schedule k t m f fs place base words here many none (one_left left e) in
          let open_kernel = effect t (Views o.number) k in
          let there = entered inside function args left in
          let seen = view_of i schedule open_kernel t m frame (caller ∷ fs) in
          let task = same_task p view shared in
          let actions : o.number ∷ p.actions ≡ map object_of (open_kernel.actions t) =
          ap (λ l. o.number ∷ l) task.0 ∙ sym (ap (map object_of) (put_same t t (Reads o.number ∷ k.actions t) k.actions refl)) in
          let sees = is.enters inside (record view { actions = o.number ∷ view.actions }) seen args left (replicate (is.s.locals - is.s.parameters) (pos 0))
          (opens p view o.number shared) passes refl refl (actions, task.1, task.2) refl refl
          (replicated (is.s.locals - is.s.parameters)) refl (ap (λ o. object_words (kind_object (kind_of o)) m) is.there) (sym (left_above left open_kernel caller refl e)) in
          returned_opened quiet i library function g is views back o.number kind schedule k t m f fs place base words here many calm
          (and_then (value_with (call left) there function.value) (passed function.result))
          (λ a ea. is.sized (call left) there seen a (sound left) sees ea) first
          (is.body (call left) left answers schedule open_kernel t m frame (caller ∷ fs) there []
          (opened_calm quiet i library function g is views back o.number kind schedule k t m f fs place base words here many calm) sees (left_above left open_kernel caller refl e))

      -- the refusals, and the call where none applies
      external : (calls : Calls) → ceiling_of p.scope o.number ≡ o.ceiling → (call_refusal k t o.number ≡ None → Arrives (calls inside function args))
          → Arrives (external_call calls p function o args)
      external calls ceiling goes = by_refusal (is_object_open o.number (k.actions t)) (is_above_ceiling k t o.number) refl refl
        where
          task : IsSameTask p view
          task = same_task p view shared

          refuses : (r : Refusal) → call_refusal k t o.number ≡ Some r → Arrives (raise ProgramError)
          refuses r e =
              raises_at_once ProgramError
              (λ schedule l m opened ranked.
              refused_object quiet i g is.s is.there o.number kind schedule l t m f fs place base words here many r
              (refusal_stays k l t o.number opened ranked ∙ e))

          by_refusal : (same above : Bool) → is_object_open o.number (k.actions t) ≡ same → is_above_ceiling k t o.number ≡ above
              → Arrives (external_call calls p function o args)
          by_refusal true above same other =
              subst Arrives (sym (called_same k t p task.0 task.1 task.2 calls function o args ceiling same))
              (refuses SameObject (refusal_same k t o.number same))
          by_refusal false true same above =
              subst Arrives (sym (called_above k t p task.0 task.1 task.2 calls function o args ceiling same above))
              (refuses AboveCeiling (refusal_above k t o.number same above))
          by_refusal false false same above =
              subst Arrives (sym (called_within k t p task.0 task.1 task.2 calls function o args ceiling same above))
              (goes (refusal_none k t o.number same above))

    -- both ways

    answers_full : 0 ≡ frames_above k t fs → (through : Option ProtectedObject) → IsCalledThrough p function through → At i place (call_operation through g)
        → Arrives (called (call zero) p function through args)
    answers_full e None way here = plain_full e here
    answers_full e (Some o) way here = external o way.0 here (call zero) way.1 (λ none. object_full o way.0 here e none)

    answers_more : (left : ℕ) → Answers i library (call left) left → suc left ≡ frames_above k t fs → (through : Option ProtectedObject)
        → IsCalledThrough p function through → At i place (call_operation through g)
        → Arrives (called (call (suc left)) p function through args)
    answers_more left answers e None way here = plain_call left answers e here
    answers_more left answers e (Some o) way here =
        external o way.0 here (call (suc left)) way.1 (λ none. object_call o way.0 here left answers e none)

  pub functions_answer : (left : ℕ) → Answers i library (call left) left
  functions_answer zero = record {
    sound = sound zero;
    answers = λ schedule k t m f fs p place base function through g args calm shared coded way here passes e.
        answers_full schedule k t m f fs p place base function g args calm shared coded passes e through way here;
  }
  functions_answer (suc left) = record {
    sound = sound (suc left);
    answers = λ schedule k t m f fs p place base function through g args calm shared coded way here passes e.
        answers_more schedule k t m f fs p place base function g args calm shared coded passes left (functions_answer left) e through way here;
  }
