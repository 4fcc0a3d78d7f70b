-- Calls of entries (RM 9.5.1, 9.5.3).
use Rattle.std.proofs.Common.{◌≡◌, ℕ, zero, suc, ◌+◌, ◌-◌, ◌<◌, ◌≤◌, ℤ, List, [], ◌∷◌, length, Option, Some, None, ⊎_elim, Bool, true, false, refl, sym, ap, ◌∙◌, subst, arith}
use Rattle.std.specs.Prelude.{if◌then◌else◌, is_some, reverse}
use Rattle.part_code.specs.base.specs.Exceptions.{number_of}
use Rattle.part_code.specs.base.specs.declared.exceptions.PredefinedException.TheVariants.{ProgramError, StorageError}
use Rattle.part_code.specs.base.specs.declared.limits.TheConstants.{FRAMES}
use Rattle.part_code.specs.base.specs.declared.schedule.ScheduleLine.{ScheduleLine}
use Rattle.kernel.specs.State.{Action}
use Rattle.kernel.specs.Counting.{Spends}
use Rattle.kernel.specs.Effects.{Opens, Queues, is_above_ceiling, is_inside_any}
use Rattle.kernel.specs.RunLaws.{spends_trans}
use Rattle.part_code.specs.image.specs.Frames.{Words, Frame, TaskState, frames_in_use}
use Rattle.part_code.specs.image.specs.Steps as steps
use Rattle.part_code.specs.image.specs.Steps.{act, behaviour, unwind}
use Rattle.part_code.specs.ada_tree.specs.ExpressionTree.{NameTree}
use Rattle.part_code.specs.ada_tree.specs.StatementTree as tree
use Rattle.part_code.specs.types.specs.Evaluations.{Val, Gives, Raises}
use Rattle.part_code.specs.types.specs.Evaluating.{call}
use Rattle.step_soundness.specs.meaning.specs.Meeting.{Last}
use Rattle.step_soundness.specs.meaning.specs.MeetingLaws.{spends_takes}
use Rattle.step_soundness.specs.meaning.specs.SameMeaning.{frames_of}
use Rattle.step_soundness.specs.meaning.specs.Calls.{Actuals, Callee, body_items, callee_by, is_open, results}
use Rattle.step_soundness.specs.meaning.specs.SourceSteps as source
use Rattle.step_soundness.specs.meaning.specs.SourceSteps.{items_of, place_of, with_value, work_step, frames_here}
use Rattle.step_soundness.specs.meaning.specs.Works.{Item, Does, EndsCall, Goes, Queued}
use Rattle.step_soundness.specs.Laws.{Matches}
use Rattle.step_soundness.specs.Opened.{HasOpened, IsHeld, Opened, opened_in}
use Rattle.step_soundness.specs.Fitting.{taken_types}
use Rattle.step_soundness.specs.Objects.{AreOf}
use Rattle.part_code.specs.expr_code.specs.Views.{in_frame, placed, view_of}
use Rattle.part_code.specs.expr_code.specs.Coming.{most_steps, size_of}
use Rattle.part_code.specs.expr_code.specs.Computing.{ArePassed}
use Rattle.part_code.specs.Resting.{Framed, RestsWith}
use Rattle.part_code.specs.Copying.{ArePlaced, actuals_on, addresses_of, passed_actuals, passed_words}
use Rattle.part_code.specs.Statements.{IsEntryCall, IsOwnEntryCall, IsProcedureCode, shapes_of}
use Rattle.part_code.proofs.Handling.{goes_within}
use Rattle.step_simulation.specs.Standing.{AreQueuesClosed, Around, Going, WaitsFor, items_size, role_of, work_size}
use Rattle.step_simulation.specs.Laws.{HasEntry}
use Rattle.step_simulation.proofs.Blocking as block
use Rattle.step_simulation.proofs.Calling as calls
use Rattle.step_simulation.proofs.Calling.{callee_found}
use Rattle.step_simulation.proofs.Copying as copy
use Rattle.step_simulation.proofs.Entering.{entered_frame}
use Rattle.step_simulation.proofs.Going.{jumps_up}
use Rattle.step_simulation.proofs.Opening.{above_ceiling, full_queue, no_frame, opens_entry, waits_at_entry}
use Rattle.step_simulation.proofs.Returning.{append_none}
use Rattle.step_simulation.proofs.Scenes.{Scene}
use Rattle.step_simulation.proofs.Scenes as scene
use Rattle.step_simulation.proofs.Sizes.{item_counts}

-- a body of the object runs within an action of it
busy : (actions : List Action) (opened : List Opened) (o : ℕ) → Matches actions opened → HasOpened o opened
    → (elim actions [ [] ↦ false | a ∷ outer ↦ true ]) ≡ true
busy actions [] o matches has = absurd has
busy [] (a ∷ opened) o matches has = absurd matches
busy (b ∷ actions) (a ∷ opened) o matches has = refl

module _ (this : Scene) (s : TaskState) where
  open this use {quiet, i, program, g, numbers, has, schedule, note, k, t, calm, store, m, shares, w, known}

  abbrev f : Frame
  f = s.frame

  abbrev fs : List Frame
  fs = s.callers

  abbrev now : source.Here
  now = scene.now this

  -- the running body is one of this object
  inside_own : (o : ℕ) → w.own.within ≡ Some o → is_inside_any k t ≡ true
  inside_own o is =
      busy (k.actions t) (opened_in (items_of w.work)) o known.opened (subst (λ q. IsHeld q (opened_in (items_of w.work))) is known.task.held)

  -- the call of an entry in a body of its own object raises at the test
  pub met_own_entry : (name : NameTree) (c : Callee) (items : List Item) → w.work ≡ Goes (Does (tree.Call name) ∷ items)
      → (h : scene.IsAtItems this s (Does (tree.Call name) ∷ items))
      → (let r = h.follows in callee_by program r.2.within name.first name.selectors ≡ Some c)
      → (let r = h.follows in w.own.within ≡ r.2.within)
      → source.item_step now (Does (tree.Call name)) items ≡ source.call_of now c c.procedure.barrier items
      → (let r = h.follows in IsOwnEntryCall i program g numbers r.0 r.1 c)
      → scene.Meet this s
  met_own_entry name c items is h found within same code =
      let r = h.follows in
      let entry = code.entry in
      let end = code.end in
      let by = callee_found program r.2.within name.first name.selectors c found in
      let own : w.own.within ≡ Some code.object =
      ⊎_elim (λ (e : c.procedure.object ≡ r.2.within). within ∙ sym e ∙ entry.owner)
      (λ (e : c.procedure.object ≡ None). absurd (let never : None ≡ Some code.object = sym e ∙ entry.owner in cc)) (by.here code.inside) in
      let inside = inside_own code.object own in
      block.met_inside this s (tree.Call name) items is h inside code.test (omega (arith, end)) r.4.1
      (ap (λ q. work_step now q) is ∙ same ∙ ap (λ q. source.call_of now c q items) entry.condition
      ∙ ap (λ q. source.entry_call_of now c q items) entry.owner
      ∙ ap (λ b. if b then source.raises_predefined now ProgramError items
      else source.with_actuals_of now c items (λ a. source.entry_call now code.object c.procedure a items)) inside)

  -- through the name of its object
  module _ (name : NameTree) (c : Callee) (items : List Item) (is : w.work ≡ Goes (Does (tree.Call name) ∷ items))
      (h : scene.IsAtItems this s (Does (tree.Call name) ∷ items))
      (same : source.item_step now (Does (tree.Call name)) items ≡ source.call_of now c c.procedure.barrier items)
      (code : (let r = h.follows in IsEntryCall i program g numbers r.2 r.0 r.1 c)) where
    abbrev at : ℕ
    at = h.follows.0

    abbrev to : ℕ
    to = h.follows.1

    abbrev o : ℕ
    o = code.object

    abbrev mid : ℕ
    mid = code.invoked.mid

    -- what is visible at the call, and around it
    abbrev now' : Framed
    now' = h.follows.2

    abbrev around : Around i program g numbers
    around = scene.seeing this now' h.around

    abbrev entry : HasEntry i program g numbers o c.procedure
    entry = has.entries o c.procedure code.entry.only

    abbrev proc : IsProcedureCode i program g numbers c.procedure entry.number
    proc = entry.code

    abbrev rests : RestsWith g now' h.around.held w.own f.locals
    rests = scene.narrowed this s h.around.visible now' w.own f.locals h.follows.3.narrows h.rests

    -- the actual parameters
    abbrev actuals : Val Actuals
    actuals = passed_actuals (call (frames_here now items)) (place_of now items) c.procedure.parameters c.arguments

    abbrev step_of : Actuals → source.SourceStepped
    step_of z = source.entry_call now o c.procedure z items

    abbrev step_is : work_step now w.work ≡
        (if is_inside_any k t then source.raises_predefined now ProgramError items else with_value now actuals items step_of)
    step_is =
        ap (λ q. work_step now q) is ∙ same ∙ ap (λ q. source.call_of now c q items) code.entry.condition
        ∙ ap (λ q. source.entry_call_of now c q items) code.entry.owner
        ∙ ap (λ v. if is_inside_any k t then source.raises_predefined now ProgramError items else with_value now v items step_of)
        (calls.actuals_are this s items c.procedure.parameters c.arguments)

    less : items_size items < work_size w.work
    less = subst (λ q. items_size items < work_size q) (sym is) (let e = item_counts (Does (tree.Call name)) items in omega (arith, e))

    up : f.place ≤ at
    up = jumps_up i program g numbers f.place at h.follows.3.jumps

    inside_mid : scene.In this f.subprogram mid
    inside_mid =
        let x = h.follows.3.from_inside in
        let y = h.follows.3.to_inside in
        let one = code.invoked.up in
        let two = code.invoked.over in
        let u = up in
        (omega (arith, x.0, u, one), omega (arith, y.1, two))

    inside_next : scene.In this f.subprogram (suc mid)
    inside_next =
        let x = h.follows.3.from_inside in
        let y = h.follows.3.to_inside in
        let one = code.invoked.up in
        let two = code.invoked.over in
        let u = up in
        (omega (arith, x.0, u, one), omega (arith, y.1, two))

    low : ((at - f.place) + 1) + (mid - suc at) < size_of i f.subprogram + size_of i f.subprogram
    low =
        let x = h.follows.3.from_inside in
        let y = h.follows.3.to_inside in
        let one = code.invoked.up in
        let two = code.invoked.over in
        let u = up in
        omega (arith, x.0, y.1, u, one, two)

    -- the refusals behind that for the ceiling, in their order
    abbrev opened_or_queued : Bool → Actuals → source.SourceStepped
    opened_or_queued b z =
        if b then source.run_body now (Opens o) (Some o) c.procedure z items else source.queue_call now o c.procedure z items

    abbrev with_frame : ℕ → Bool → Actuals → source.SourceStepped
    with_frame n b z = source.if_frame_left now n items (opened_or_queued b z)

    -- ---- once the actual parameters are on the operand stack

    module _ (free : is_inside_any k t ≡ false) (z : Actuals) (gives : actuals ≡ Gives z) (step : work_step now w.work ≡ step_of z)
        (spends : Spends (behaviour i schedule) t frames_of (most_steps i) (suc (length fs)) (((at - f.place) + 1) + (mid - suc at)) k
        (in_frame m (placed f f.place []) fs) k
        (in_frame m (placed f mid (actuals_on now'.names c.procedure.parameters [] z)) fs)) where
      abbrev words : List ℤ
      words = passed_words c.procedure.parameters z.values (addresses_of now'.names z.targets)

      abbrev calling : Frame
      calling = placed f mid (actuals_on now'.names c.procedure.parameters [] z)

      abbrev Done : Type 0
      Done = scene.Meet this (in_frame m (placed f f.place []) fs).task

      abbrev given : ArePassed (shapes_of i program g numbers c.procedure) z.values × AreOf program.scope (taken_types c.procedure.parameters) z.values
          × ArePlaced now' code.invoked.destinations z.targets
      given =
          code.invoked.passes (call (frames_here now items)) (place_of now items) (view_of i schedule k t m f fs) z (has.functions (frames_here now items)).sound
          (scene.sees_here this now' items f fs rests h.object) gives

      addresses_many : length (addresses_of now'.names z.targets) ≡ length (results c.procedure.parameters)
      addresses_many = copy.placed_many now' code.invoked.destinations z.targets given.2 ∙ code.invoked.many

      many : length words ≡ proc.s.parameters
      many = proc.parameters z.values (addresses_of now'.names z.targets) given.0 addresses_many

      -- the call is refused
      raise : (x : ℕ) → work_step now w.work ≡ source.raises now x items
          → ((schedule' : List ScheduleLine) (m' : Words) → AreQueuesClosed i program g numbers k t m'
          → act i schedule' k t (in_frame m' calling fs) ≡ unwind i m' x calling fs)
          → Done
      raise x raises next =
          let value : Val ℤ = Raises x in
          let one = code.invoked.up in
          let two = code.invoked.over in
          scene.met_raises this f fs (((at - f.place) + 1) + (mid - suc at)) mid
          (actuals_on now'.names c.procedure.parameters [] z) x items raises spends low less
          (scene.handled_by this s around now' to items value at to h.follows.5 h.follows.4.1 rests refl h.follows.3.reaches.2 h.object h.depth x mid
          (actuals_on now'.names c.procedure.parameters [] z) (scene.raises_known this x items raises) refl (omega (arith, one)) (omega (arith, two)))
          (record { raises = next })

      -- the next step is met by that of the call
      moves : (x : source.SourceStepped) (y : steps.Stepped) → work_step now w.work ≡ x → act i schedule k t (in_frame m calling fs) ≡ y
          → scene.Meets this x y
          → Done
      moves x y is there meets =
          let l = low in
          scene.moves_from this (in_frame m (placed f f.place []) fs).task ((((at - f.place) + 1) + (mid - suc at)) + 1) (in_frame m calling fs) x y is there
          (spends_takes (behaviour i schedule) t frames_of (most_steps i) 1 k (in_frame m calling fs) spends (Last refl))
          (omega (arith, l), λ some. omega (arith, l)) meets

      -- the barrier is open: the body is entered
      opens : is_above_ceiling k t o ≡ false → frames_in_use k.partition t fs < FRAMES → is_open program store o ≡ true
          → work_step now w.work ≡ source.run_body now (Opens o) (Some o) c.procedure z items
          → Done
      opens below few there next =
          let waiting = placed f mid [] in
          let body = entered_frame i program g numbers note c.procedure entry.number proc z.values (addresses_of now'.names z.targets) (role_of (Some o)) in
          let waits : WaitsFor i program g numbers around waiting w.own =
          record { object = h.object; rests = rests; stack = refl; here = inside_mid; next = inside_next; handles = h.follows.3.reaches.2 } in
          let one = code.invoked.up in
          moves (source.run_body now (Opens o) (Some o) c.procedure z items) (steps.does (Opens o) m body (waiting ∷ fs) None None) next
          (opens_entry quiet i entry.number proc.s proc.there schedule k t m f fs mid [] words many o entry.row code.invoked.calls free below few
          (sym (has.barriers store m o known.store known.values shares) ∙ there))
          (record {
            effect = refl;
            leaves = Going (body_items c.procedure (EndsCall (results c.procedure.parameters) (Some o) z.targets) items) refl
                (calls.call_entered this s c.procedure entry.number proc (Some o) z items around waiting fs code.invoked.destinations to given.0 given.1
                addresses_many waits code.invoked.many given.2 code.invoked.over h.follows.3.to_inside code.invoked.copies h.follows.5
                (goes_within i h.around.raised at mid to to h.follows.4.1 (omega (arith, one)) (omega arith)) h.depth);
            words = shares;
          })

      -- the call waits in the queue, in which there was none before
      queues : is_above_ceiling k t o ≡ false → frames_in_use k.partition t fs < FRAMES → is_open program store o ≡ false → k.queued o ≡ None
          → work_step now w.work ≡ source.works now (Queues o) (Goes (Queued c.procedure z.values z.targets ∷ items))
          → Done
      queues below few there none next =
          let one = code.invoked.up in
          moves (source.works now (Queues o) (Goes (Queued c.procedure z.values z.targets ∷ items))) (steps.does (Queues o) m calling fs None None) next
          (waits_at_entry quiet i entry.number proc.s proc.there schedule k t m f fs mid [] words many o entry.row code.invoked.calls free below few
          (sym (has.barriers store m o known.store known.values shares) ∙ there) (ap is_some none))
          (record {
            effect = refl;
            leaves = record {
              free = none;
              q = c.procedure;
              vs = z.values;
              xs = z.targets;
              addresses = addresses_of now'.names z.targets;
              items = items;
              work = refl;
              at_call = record {
                around = around;
                destinations = code.invoked.destinations;
                to = to;
                shaped = given.0;
                typed = given.1;
                addressed = refl;
                placed = given.2;
                many = code.invoked.many;
                over = code.invoked.over;
                copies = code.invoked.copies;
                here = inside_mid;
                next = inside_next;
                to_inside = h.follows.3.to_inside;
                follows = h.follows.5;
                rests = rests;
                object = h.object;
                stack = append_none (reverse words);
                going = refl;
                depth = h.depth;
                goes = goes_within i h.around.raised at mid to to h.follows.4.1 (omega (arith, one)) (omega arith);
                handles = h.follows.3.reaches.2;
              };
            };
            words = shares;
          })

      by_queue : is_above_ceiling k t o ≡ false → frames_in_use k.partition t fs < FRAMES → is_open program store o ≡ false
          → work_step now w.work ≡ source.queue_call now o c.procedure z items
          → (q : Option ℕ) → k.queued o ≡ q → Done
      by_queue below few there next None e =
          queues below few there e
          (next ∙ ap (λ q. if is_some q then source.raises_predefined now ProgramError items
          else source.works now (Queues o) (Goes (Queued c.procedure z.values z.targets ∷ items))) e)
      by_queue below few there next (Some u) e =
          raise (number_of ProgramError)
          (next ∙ ap (λ q. if is_some q then source.raises_predefined now ProgramError items
          else source.works now (Queues o) (Goes (Queued c.procedure z.values z.targets ∷ items))) e)
          (λ schedule' m' closed.
          full_queue quiet i entry.number proc.s proc.there schedule' k t m' f fs mid [] words many o entry.row code.invoked.calls free below few
          (closed o u e free below) (ap is_some e))

      by_barrier : is_above_ceiling k t o ≡ false → frames_in_use k.partition t fs < FRAMES → (b : Bool) → is_open program store o ≡ b
          → work_step now w.work ≡ opened_or_queued b z
          → Done
      by_barrier below few true there next = opens below few there next
      by_barrier below few false there next = by_queue below few there next (k.queued o) refl

      by_frames : is_above_ceiling k t o ≡ false → work_step now w.work ≡ with_frame (frames_here now items) (is_open program store o) z
          → (n : ℕ) → frames_here now items ≡ n → Done
      by_frames below next zero e =
          let same = scene.frames_same this items fs h.depth in
          raise (number_of StorageError) (next ∙ ap (λ n. with_frame n (is_open program store o) z) e)
          (λ schedule' m' closed.
          no_frame quiet i entry.number proc.s proc.there schedule' k t m' f fs mid [] words many o entry.row code.invoked.calls free below
          (omega (arith, e, same)))
      by_frames below next (suc n) e =
          let same = scene.frames_same this items fs h.depth in
          by_barrier below (omega (arith, e, same)) (is_open program store o) refl (next ∙ ap (λ n. with_frame n (is_open program store o) z) e)

      by_ceiling : (b : Bool) → is_above_ceiling k t o ≡ b → Done
      by_ceiling true above =
          raise (number_of ProgramError)
          (step ∙ ap (λ b. if b then source.raises_predefined now ProgramError items else with_frame (frames_here now items) (is_open program store o) z) above)
          (λ schedule' m' closed.
          above_ceiling quiet i entry.number proc.s proc.there schedule' k t m' f fs mid [] words many o entry.row code.invoked.calls free above)
      by_ceiling false below =
          by_frames below
          (step ∙ ap (λ b. if b then source.raises_predefined now ProgramError items else with_frame (frames_here now items) (is_open program store o) z) below)
          (frames_here now items) refl

    by_actions : (b : Bool) → is_inside_any k t ≡ b → scene.Meet this s
    by_actions true inside =
        let one = code.invoked.up in
        let two = code.invoked.over in
        block.met_inside this s (tree.Call name) items is h inside code.test (omega (arith, one, two)) h.follows.4.1
        (step_is ∙ ap (λ b. if b then source.raises_predefined now ProgramError items else with_value now actuals items step_of) inside)
    by_actions false free =
        let one = code.invoked.up in
        let two = code.invoked.over in
        subst (scene.Meet this) (sym (scene.going_is this s h.stack h.going))
        (scene.met_value this f fs ((at - f.place) + 1) (suc at) (mid - suc at) mid (actuals_on now'.names c.procedure.parameters []) actuals items step_of
        (spends_trans (behaviour i schedule) t frames_of (most_steps i) 1 k (in_frame m (placed f (suc at) []) fs)
        (scene.jumps_spend this f fs f.place at h.follows.3.jumps) (block.tested this s at code.test free))
        (scene.evaluates this now' (suc at) mid (actuals_on now'.names c.procedure.parameters)
        (λ calls p. passed_actuals calls p c.procedure.parameters c.arguments) items f fs code.invoked.computes rests h.object h.depth)
        low
        (step_is ∙ ap (λ b. if b then source.raises_predefined now ProgramError items else with_value now actuals items step_of) free)
        less
        (scene.handled_by this s around now' to items actuals (suc at) mid h.follows.5
        (goes_within i h.around.raised at (suc at) mid to h.follows.4.1 (omega arith) (omega (arith, two))) rests refl h.follows.3.reaches.2 h.object h.depth)
        (λ z ez next spends. by_ceiling free z ez next spends (is_above_ceiling k t o) refl))

    pub met_entry_call : scene.Meet this s
    met_entry_call = by_actions (is_inside_any k t) refl
