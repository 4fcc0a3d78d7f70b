-- Exceptions are raised and handled: each item that is dropped is met by no step, and the last one by the one step of code that raises.
use Rattle.std.proofs.Common.{◌≡◌, ⊎_elim, ℕ, suc, ◌+◌, ◌-◌, ◌<◌, ◌≤◌, ℤ, List, [], ◌∷◌, length, Option, Some, None, true, inl, refl, sym, ap, ◌∙◌, subst, arith, rules}
use Rattle.std.specs.Prelude.{◌&&◌, if◌then◌else◌, nat_le, pos}
use Rattle.kernel.specs.State as kernels
use Rattle.kernel.specs.Effects.{Quiet, Dies, Ends}
use Rattle.part_code.specs.handlers.specs.Innermost.{handler_of}
use Rattle.part_code.specs.image.specs.Frames.{Inner, Opened, Serving, Words, Frame, TaskState}
use Rattle.part_code.specs.image.specs.Scalars.{exception_of}
use Rattle.part_code.specs.image.specs.Steps as steps
use Rattle.part_code.specs.image.specs.Steps.{act, behaviour, caught, loaded, raises_number, removed, unwind}
use Rattle.part_code.specs.image.specs.declared.instruction.Operation.TheVariants as op
use Rattle.part_code.specs.ada_tree.specs.declared.expression.Identifier.{Identifier}
use Rattle.part_code.specs.ada_tree.specs.StatementTree.{HandlerTrees, Raise, StmtTrees}
use Rattle.part_code.specs.types.specs.Evaluations.{Val, Raises}
use Rattle.step_soundness.specs.meaning.specs.Meeting.{Last}
use Rattle.step_soundness.specs.meaning.specs.MeetingLaws.{spends_takes, still_by, moves_by, unrestarted}
use Rattle.step_soundness.specs.meaning.specs.SameMeaning.{frames_of}
use Rattle.step_soundness.specs.meaning.specs.SourceSteps as source
use Rattle.step_soundness.specs.meaning.specs.SourceSteps.{before, handler_for, program_behaviour, work_step}
use Rattle.step_soundness.specs.meaning.specs.Works.{Item, Declares, DeclaresParameter, Sequence, Does, DoesMain, Repeats, RepeatsWhile, RepeatsFor, Handles, EndsHandler, EndsCall, EndsAction, EndsServed, Completion, Pending, Queued, Goes, Raising, Activation, Target}
use Rattle.step_soundness.specs.meaning.specs.Works as works
use Rattle.step_soundness.specs.meaning.specs.Calls.{is_open}
use Rattle.step_soundness.specs.Judged.{IsWorkOf}
use Rattle.step_soundness.specs.Objects.{IsException}
use Rattle.part_code.specs.expr_code.specs.Views.{At, in_frame, placed}
use Rattle.part_code.specs.expr_code.specs.Coming.{most_steps}
use Rattle.part_code.specs.expr_code.proofs.Coming.{acts}
use Rattle.part_code.specs.expr_code.proofs.Coming as coming
use Rattle.part_code.specs.Resting.{StandsFor}
use Rattle.step_simulation.specs.Standing.{Catches, Catching, Closing, CaughtIf, CodeStands, Over as Ended, Raised, RaisesNext, items_size, relation, work_size}
use Rattle.step_simulation.proofs.Catching.{handling_here}
use Rattle.step_simulation.proofs.Going.{jumps_up}
use Rattle.step_simulation.proofs.Scenes.{Scene}
use Rattle.step_simulation.proofs.Scenes as scene
use Rattle.step_simulation.proofs.Sizes.{item_counts}
use Rattle.kernel.specs.Worlds.{is_handler_over, restarted}
use Rattle.part_code.specs.image.specs.Code.{initial_state}
use Rattle.step_soundness.specs.meaning.specs.Source.{initial_work}

at_least : (m n : ℕ) → m ≤ n → nat_le m n ≡ true
at_least m n h = search rules

-- a number of which there is an exception
exception_there : (n x : ℕ) → 0 < x → x ≤ n → exception_of n (pos x) ≡ Some x
exception_there n x low high =
    (λ j. if at_least 1 x (omega (arith, low)) j && nat_le x n then Some x else None)
    ∙ ap (λ b. if b then Some x else None) (at_least x n high)

module _ (this : Scene) where
  open this use {quiet, i, program, g, numbers, has, schedule, k, t, calm, store, m, shares, w}

  abbrev now : source.Here
  now = scene.now this

  abbrev MetFrom : TaskState → Type 0
  MetFrom s = scene.MetFrom this s

  abbrev Meet : TaskState → Type 0
  Meet s = scene.Meet this s

  abbrev Caught : (x : ℕ) (f : Frame) (fs : List Frame) (own : Activation) (os : List Activation) → List Item → Type 0
  Caught x f fs own os items = Catches i program g numbers this.note x f fs own os items

  -- ---- frames that are removed

  -- no handler takes the exception in this frame
  passes : (x : ℕ) (f c : Frame) (below : List Frame) (m' : Words) → handler_of i.rows f.place x ≡ None → f.role ≡ Inner
      → unwind i m' x f (c ∷ below) ≡ unwind i m' x c below
  passes x f c below m' none inner =
      ap (λ o. caught i m' x o f (c ∷ below) (removed i m' x f.role c below (unwind i m' x c below))) none
      ∙ ap (λ r. removed i m' x r c below (unwind i m' x c below)) inner

  -- ... and with it an action ends that its call has opened
  closes : (x o : ℕ) (f c : Frame) (below : List Frame) (m' : Words) → handler_of i.rows f.place x ≡ None → f.role ≡ Opened o
      → unwind i m' x f (c ∷ below) ≡ steps.does (Ends (steps.is_open i m' o)) m' c below (Some x) None
  closes x o f c below m' none opened =
      ap (λ q. caught i m' x q f (c ∷ below) (removed i m' x f.role c below (unwind i m' x c below))) none
      ∙ ap (λ r. removed i m' x r c below (unwind i m' x c below)) opened

  -- ... or the body of an entry, for whose caller the exception is
  hands_back : (x o u : ℕ) (pending : Option ℕ) (f c : Frame) (below : List Frame) (m' : Words) → handler_of i.rows f.place x ≡ None
      → f.role ≡ Serving o u pending
      → unwind i m' x f (c ∷ below) ≡ steps.does (Ends (steps.is_open i m' o)) m' c below pending (Some (steps.Raised x))
  hands_back x o u pending f c below m' none serving =
      ap (λ q. caught i m' x q f (c ∷ below) (removed i m' x f.role c below (unwind i m' x c below))) none
      ∙ ap (λ r. removed i m' x r c below (unwind i m' x c below)) serving

  lands : (x target : ℕ) (f : Frame) (fs : List Frame) → handler_of i.rows f.place x ≡ Some target
      → unwind i m x f fs ≡ steps.does Quiet m (placed f target (pos x ∷ [])) fs None None
  lands x target f [] there = ap (λ o. caught i m x o f [] (steps.does (Dies x) m (record f { stack = [] }) [] (Some x) None)) there
  lands x target f (c ∷ fs) there = ap (λ o. caught i m x o f (c ∷ fs) (removed i m x f.role c fs (unwind i m x c fs))) there

  dies : (x : ℕ) (f : Frame) → handler_of i.rows f.place x ≡ None
      → unwind i m x f [] ≡ steps.does (Dies x) m (record f { stack = [] }) [] (Some x) None
  dies x f none = ap (λ o. caught i m x o f [] (steps.does (Dies x) m (record f { stack = [] }) [] (Some x) None)) none

  -- ---- steps

  module _ (s : TaskState) (x : ℕ) where
    -- no step of code
    met_still : (y : source.SourceStepped) → work_step now w.work ≡ y → y.effect ≡ Quiet → y.solo.memory ≡ store
        → CodeStands i program g numbers this.note k t y.solo.task s
        → work_size y.solo.task.work < work_size w.work
        → MetFrom s
    met_still y is e same stands less =
        still_by (program_behaviour program schedule) (behaviour i schedule) (relation i program g numbers) frames_of (most_steps i) this.note k t
        (record { memory = store; task = w }) (record { memory = m; task = s }) y
        (ap (λ q. restarted (initial_work program t) k t q) is ∙ unrestarted (initial_work program t) k t y (ap (is_handler_over k t) e)) e
        (subst (λ q. StandsFor program g q m) (sym same) shares) stands less

    -- the step of code that raises
    met_step : (y : source.SourceStepped) (z : steps.Stepped) → work_step now w.work ≡ y → act i schedule k t (record { memory = m; task = s }) ≡ z
        → scene.Meets this y z
        → MetFrom s
    met_step y z is there meets =
        moves_by (program_behaviour program schedule) (behaviour i schedule) (relation i program g numbers) frames_of (most_steps i) this.note k t
        (record { memory = store; task = w }) (record { memory = m; task = s })
        1 (record { memory = m; task = s }) (restarted (initial_work program t) k t y) (restarted (initial_state i t) k t z)
        (ap (λ q. restarted (initial_work program t) k t q) is) (ap (λ q. restarted (initial_state i t) k t q) there) (Last refl) (omega arith)
        meets.effect meets.words (scene.restart_leaves this y z meets)

    -- an item is dropped
    met_dropped : (i' : Item) (items : List Item) (f : Frame) (fs : List Frame) → w.work ≡ Raising x (i' ∷ items)
        → work_step now w.work ≡ source.raises now x items
        → RaisesNext i program g numbers k t x s f fs → Caught x f fs w.own w.callers items → MetFrom s
    met_dropped i' items f fs is step throws c =
        met_still (source.raises now x items) step refl refl (Raised x items f fs refl calm.runs.running throws c)
        (subst (λ q. items_size items < work_size q) (sym is) (item_counts i' items))

    -- the activation of a call is left, and its frame is removed: at once, or in the step that ends the action which the call has opened
    met_left : (names : List (List ℕ)) (opened : Option ℕ) (xs : List Target) (items : List Item) (f : Frame) (fs : List Frame)
        → w.work ≡ Raising x (EndsCall names opened xs ∷ items) → RaisesNext i program g numbers k t x s f fs
        → Caught x f fs w.own w.callers (EndsCall names opened xs ∷ items) → MetFrom s
    met_left names None xs items f fs is throws c =
        let above = c.0 in
        let below = c.1 in
        let after' : source.SourceStepped = source.leaves now Quiet (c.2 ∷ c.3) (Raising x items) None in
        met_still after'
        (ap (λ q. work_step now q) is ∙ ap (λ q. source.leaves now Quiet q (Raising x items) None) c.7)
        refl refl
        (Raised x items above below refl calm.runs.running
        (record {
          raises = λ schedule' m' closed. throws.raises schedule' m' closed ∙ ap (λ q. unwind i m' x f q) c.6 ∙ passes x f above below m' c.5 c.4;
        })
        c.8)
        (subst (λ q. items_size items < work_size q) (sym is) (item_counts (EndsCall names None xs) items))
    met_left names (Some o) xs items f fs is throws c =
        let above = c.0 in
        let below = c.1 in
        let work = Goes (EndsAction o (Pending x) ∷ items) in
        let after' : source.SourceStepped = source.leaves now Quiet (c.2 ∷ c.3) work None in
        met_still after'
        (ap (λ q. work_step now q) is ∙ ap (λ q. source.leaves now Quiet q work None) c.7)
        refl refl
        (Closing o (Pending x) items (record { frame = above; callers = below; raising = Some x }) refl calm.runs.running
        (record {
          ends = λ schedule' m' closed. throws.raises schedule' m' closed ∙ ap (λ q. unwind i m' x f q) c.6 ∙ closes x o f above below m' c.5 c.4;
        })
        c.8)
        (subst (λ q. work_size work < work_size q) (sym is) (omega arith))

    -- the body of an entry is left, and its caller is given the exception
    met_served : (o : ℕ) (names : List (List ℕ)) (done : Completion) (items : List Item) (f : Frame) (fs : List Frame)
        → w.work ≡ Raising x (EndsServed o names done ∷ items) → RaisesNext i program g numbers k t x s f fs
        → Caught x f fs w.own w.callers (EndsServed o names done ∷ items) → MetFrom s
    met_served o names done items f fs is throws c =
        let above = c.1 in
        let below = c.2 in
        let pending = c.3 in
        let work = source.completed done items in
        let task = this.known.task in
        let sound = subst (λ q. IsWorkOf program None w.own task.scope task.outer task.around q) is task.work in
        let closed = Ends (is_open program store o) in
        met_step (source.leaves now closed (c.4 ∷ c.5) work (Some (works.Raised x)))
        (steps.does (Ends (steps.is_open i m o)) m above below pending (Some (steps.Raised x)))
        (ap (λ q. work_step now q) is ∙ ap (λ q. source.leaves now closed q work (Some (works.Raised x))) c.9)
        (throws.raises schedule m (scene.queues_closed this) ∙ ap (λ q. unwind i m x f q) c.8 ∙ hands_back x o c.0 pending f above below m c.7 c.6)
        (record {
          effect = ap Ends (sym (has.barriers store m o this.known.store this.known.values shares));
          leaves = inl (record { done = done; items = items; work = refl; goes_on = c.10; gives = λ o' u' outer there. (refl, sound.0) });
          words = shares;
        })

    -- a handler takes it, or not
    met_handlers : (hs : HandlerTrees) (items : List Item) (f : Frame) (fs : List Frame) → w.work ≡ Raising x (Handles hs ∷ items)
        → RaisesNext i program g numbers k t x s f fs
        → Caught x f fs w.own w.callers (Handles hs ∷ items) → MetFrom s
    met_handlers hs items f fs is throws c = by_handler (handler_for program x hs) refl c
      where
        by_handler : (o : Option StmtTrees) → handler_for program x hs ≡ o
            → CaughtIf i program g numbers this.note x f fs w.own w.callers items o (Caught x f fs w.own w.callers items) → MetFrom s
        by_handler (Some body) found h =
            met_step (source.goes now (before body (EndsHandler x ∷ items))) (steps.does Quiet m (placed f h.target (pos x ∷ [])) fs None None)
            (ap (λ q. work_step now q) is ∙ ap (λ o. source.handled now x o items) found)
            (throws.raises schedule m (scene.queues_closed this) ∙ lands x h.target f fs h.taken)
            (record {
              effect = refl;
              leaves = Catching (before body (EndsHandler x ∷ items)) refl h.catching;
              words = shares;
            })
        by_handler None found h =
            met_dropped (Handles hs) items f fs is (ap (λ q. work_step now q) is ∙ ap (λ o. source.handled now x o items) found) throws h

    -- nothing is left to do: the exception ends the task
    met_last : (f : Frame) (fs : List Frame) → w.work ≡ Raising x [] → RaisesNext i program g numbers k t x s f fs → Caught x f fs w.own w.callers []
        → MetFrom s
    met_last f fs is throws c =
        met_step (source.works now (Dies x) (Goes [])) (steps.does (Dies x) m (record f { stack = [] }) [] (Some x) None) (ap (λ q. work_step now q) is)
        (throws.raises schedule m (scene.queues_closed this) ∙ ap (λ q. unwind i m x f q) c.1 ∙ dies x f c.0)
        (record { effect = refl; leaves = Ended (kernels.Unhandled x t) refl; words = shares })

    pub met_raised : (items : List Item) (f : Frame) (fs : List Frame) → w.work ≡ Raising x items → RaisesNext i program g numbers k t x s f fs
        → Caught x f fs w.own w.callers items → MetFrom s
    met_raised [] f fs is throws c = met_last f fs is throws c
    met_raised (Declares d ∷ items) f fs is throws c = met_dropped (Declares d) items f fs is (ap (λ q. work_step now q) is) throws c
    met_raised (DeclaresParameter p ∷ items) f fs is throws c =
        met_dropped (DeclaresParameter p) items f fs is (ap (λ q. work_step now q) is) throws c
    met_raised (Sequence body hs ∷ items) f fs is throws c =
        met_dropped (Sequence body hs) items f fs is (ap (λ q. work_step now q) is) throws c
    met_raised (Does st ∷ items) f fs is throws c = met_dropped (Does st) items f fs is (ap (λ q. work_step now q) is) throws c
    met_raised (DoesMain st ∷ items) f fs is throws c = met_dropped (DoesMain st) items f fs is (ap (λ q. work_step now q) is) throws c
    met_raised (Repeats body ∷ items) f fs is throws c = met_dropped (Repeats body) items f fs is (ap (λ q. work_step now q) is) throws c
    met_raised (RepeatsWhile e body ∷ items) f fs is throws c =
        met_dropped (RepeatsWhile e body) items f fs is (ap (λ q. work_step now q) is) throws c
    met_raised (RepeatsFor p r a b body ∷ items) f fs is throws c =
        met_dropped (RepeatsFor p r a b body) items f fs is (ap (λ q. work_step now q) is) throws c
    met_raised (Handles hs ∷ items) f fs is throws c = met_handlers hs items f fs is throws c
    met_raised (EndsHandler y ∷ items) f fs is throws c = met_dropped (EndsHandler y) items f fs is (ap (λ q. work_step now q) is) throws c
    met_raised (EndsCall names opened xs ∷ items) f fs is throws c = met_left names opened xs items f fs is throws c
    met_raised (EndsAction o completion ∷ items) f fs is throws c =
        met_dropped (EndsAction o completion) items f fs is (ap (λ q. work_step now q) is) throws c
    met_raised (EndsServed o names completion ∷ items) f fs is throws c = met_served o names completion items f fs is throws c
    met_raised (Queued q vs xs ∷ items) f fs is throws c = met_dropped (Queued q vs xs) items f fs is (ap (λ q. work_step now q) is) throws c

  -- ---- statements that raise (RM 11.3)

  module _ (s : TaskState) where
    abbrev f : Frame
    f = s.frame

    abbrev fs : List Frame
    fs = s.callers

    abbrev IsAtItems : List Item → Type 0
    IsAtItems items = scene.IsAtItems this s items

    -- what a sound task raises is an exception of the image
    known : (x : ℕ) → IsException program x → exception_of (length i.exceptions) (pos x) ≡ Some x
    known x h =
        let many = ap length has.exceptions in
        let some = has.predefined in
        exception_there (length i.exceptions) x h.0
        (⊎_elim (λ (low : x ≤ 4). omega (arith, low, some, many)) (λ (low : x ≤ length program.exceptions). omega (arith, low, many)) h.1)

    -- the exception is put on the operand stack, and raised
    met_throws : (x place : ℕ) (name : Option Identifier) (items : List Item) → w.work ≡ Goes (Does (Raise place name) ∷ items)
        → (h : IsAtItems (Does (Raise place name) ∷ items))
        → work_step now w.work ≡ source.raises now x items
        → (let r = h.follows in At i (suc r.0) op.Raise)
        → (let r = h.follows in r.1 ≡ suc (suc r.0))
        → (let r = h.follows in act i schedule k t (in_frame m (placed f r.0 []) fs) ≡ steps.does Quiet m (placed f (suc r.0) (pos x ∷ [])) fs None None)
        → Meet s
    met_throws x place name items is h step raise end first =
        let r = h.follows in
        let at = r.0 in
        let leads = r.3 in
        let a = leads.from_inside in
        let b = leads.to_inside in
        let up = jumps_up i program g numbers f.place r.0 leads.jumps in
        let around = scene.seeing this r.2 h.around in
        let rests = scene.narrowed this s h.around.visible r.2 w.own f.locals leads.narrows h.rests in
        let there = known x (scene.raises_known this x items step) in
        let v : Val ℤ = Raises x in
        subst Meet (sym (scene.going_is this s h.stack h.going))
        (scene.met_value this f fs (r.0 - f.place) r.0 1 r.1 (λ z. z ∷ []) v items (λ z. source.goes now items)
        (scene.jumps_spend this f fs f.place r.0 leads.jumps) (
          (in_frame m (placed f (suc at) (pos x ∷ [])) fs).task,
          suc at,
          pos x ∷ [],
          spends_takes (behaviour i schedule) t frames_of (most_steps i) 1 k (in_frame m (placed f (suc at) (pos x ∷ [])) fs)
              (coming.steps quiet i schedule k t m calm (placed f r.0 []) (placed f (suc at) (pos x ∷ [])) fs
              first) (Last refl),
          omega arith,
          omega (arith, end),
          record {
            throws = λ schedule' l m' opened ranked.
                acts quiet i (suc at) op.Raise raise schedule' l t m' f fs (pos x ∷ [])
                ∙ ap (λ o. raises_number i schedule' l t m' (placed f (suc at) (pos x ∷ [])) fs o) there;
          },
        )
        (omega (arith, a.0, b.1, up, end)) step
        (subst (λ q. items_size items < work_size q) (sym is) (let c = item_counts (Does (Raise place name)) items in omega (arith, c)))
        (scene.handled_by this s around r.2 r.1 items v r.0 r.1 r.5 r.4.1 rests refl leads.reaches.2 h.object h.depth)
        (λ z ez next spends. absurd cc))

    following : (at : ℕ) (stack : List ℤ) → steps.does Quiet m (placed f (at + 1) stack) fs None None ≡ steps.does Quiet m (placed f
        (suc at) stack) fs None None
    following at stack = let e : at + 1 ≡ suc at = omega arith in ap (λ q. steps.does Quiet m (placed f q stack) fs None None) e

    pub met_raise : (place : ℕ) (name : Option Identifier) (items : List Item) → w.work ≡ Goes (Does (Raise place name) ∷ items)
        → (h : IsAtItems (Does (Raise place name) ∷ items)) → Meet s
    met_raise place (Some name) items is h =
        let r = h.follows in
        let code = r.4.0 in
        met_throws code.0 place (Some name) items is h
        (ap (λ q. work_step now q) is ∙ ap (λ o. source.raise_number now o items) code.1) code.3 code.4
        (acts quiet i r.0 (op.Push (pos code.0)) code.2 schedule k t m f fs [] ∙ following r.0 (pos code.0 ∷ []))
    met_raise place None items is h =
        let r = h.follows in
        let code = r.4.0 in
        let around = scene.seeing this r.2 h.around in
        let held = handling_here i program g numbers this.note items around f.subprogram r.1 code.0 f.locals f.role fs w.callers r.5 code.1 h.rests.held in
        met_throws held.0 place None items is h
        (ap (λ q. work_step now q) is ∙ ap (λ o. source.raise_number now o items) held.1) code.3 code.4
        (acts quiet i r.0 (op.LoadLocal code.0) code.2 schedule k t m f fs []
        ∙ ap (λ o. loaded i schedule k t m (placed f r.0 []) fs o []) held.2 ∙ following r.0 (pos held.0 ∷ []))
