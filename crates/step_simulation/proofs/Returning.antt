-- The ends of bodies, of calls and of those that were run for a caller; and of the actions that calls have opened.
use Rattle.std.proofs.Common.{◌≡◌, ℕ, suc, ◌+◌, ◌-◌, ◌<◌, ℤ, List, [], ◌∷◌, length, Option, Some, None, true, cond, inl, inr, refl, sym, ap, ◌∙◌, subst, arith, rules, ⊎_elim}
use Rattle.std.proofs.lemmas.Option.{none-some}
use Rattle.std.specs.Prelude.{◌++◌, nat_le, take}
use Rattle.part_code.specs.base.specs.declared.schedule.ScheduleLine.{ScheduleLine}
use Rattle.kernel.specs.State.{Action, Serves, Writes}
use Rattle.kernel.specs.Effects.{Ends, Quiet, after}
use Rattle.kernel.specs.Counting.{Spends}
use Rattle.kernel.specs.RunLaws.{spends_trans}
use Rattle.part_code.specs.image.specs.Frames.{Words, Frame, TaskState, own_object}
use Rattle.part_code.specs.image.specs.Steps as steps
use Rattle.part_code.specs.image.specs.Steps.{act, behaviour}
use Rattle.part_code.specs.image.specs.declared.instruction.Operation.TheVariants as op
use Rattle.part_code.specs.types.specs.Values.{Value}
use Rattle.step_soundness.specs.meaning.specs.Meeting.{Last}
use Rattle.step_soundness.specs.meaning.specs.MeetingLaws.{spends_takes}
use Rattle.step_soundness.specs.meaning.specs.SameMeaning.{frames_of}
use Rattle.step_soundness.specs.meaning.specs.Calls.{is_open, results_in}
use Rattle.step_soundness.specs.meaning.specs.SourceSteps as source
use Rattle.step_soundness.specs.meaning.specs.SourceSteps.{items_of, place_of, work_step}
use Rattle.step_soundness.specs.meaning.specs.Works as works
use Rattle.step_soundness.specs.meaning.specs.Works.{Item, EndsAction, EndsCall, EndsServed, Completed, Completion, Goes, Activation, Target}
use Rattle.step_soundness.specs.Laws.{Matches}
use Rattle.step_soundness.specs.Opened.{ForCall, Opened, opened_in}
use Rattle.part_code.specs.expr_code.specs.Views.{in_frame, placed, view_of}
use Rattle.part_code.specs.expr_code.specs.Coming.{most_steps, size_of}
use Rattle.part_code.specs.expr_code.proofs.Coming.{acts}
use Rattle.part_code.specs.expr_code.specs.declared.visible.Visible.{Visible}
use Rattle.part_code.specs.Resting.{AreHeld, RestsWith}
use Rattle.part_code.specs.Copying.{addresses_of, copies_on}
use Rattle.part_code.proofs.Handling.{goes_within}
use Rattle.step_simulation.specs.Standing.{Around, CallsOn, Closing, CodeStands, EndsItsAction, FollowsIn, GivesSame, IsCompleted, IsCopying, IsLastBelow, LeadsEnd, role_of, work_size}
use Rattle.step_simulation.specs.Laws.{KnowsCaller}
use Rattle.step_simulation.proofs.Copying as copy
use Rattle.step_simulation.proofs.Going.{jumps_up}
use Rattle.step_simulation.proofs.Scenes.{Scene}
use Rattle.step_simulation.proofs.Scenes as scene

-- ---- lists

nat_le_same : (n : ℕ) → nat_le n n ≡ true
nat_le_same n = search rules

take_whole : (xs : List ℤ) → take (length xs) xs ≡ xs
take_whole [] = refl
take_whole (x ∷ xs) = ap (λ l. x ∷ l) (take_whole xs)

pub append_none : (xs : List ℤ) → xs ++ [] ≡ xs
append_none [] = refl
append_none (x ∷ xs) = ap (λ l. x ∷ l) (append_none xs)

pub targets_many : (v : Visible) (xs : List Target) → length (addresses_of v xs) ≡ length xs
targets_many v [] = refl
targets_many v (x ∷ xs) = ap suc (targets_many v xs)

-- ---- whom the kernel knows

-- no caller is served in an action that a call has opened
not_served : (actions : List Action) (o p u : ℕ) (outer : List Action) (opened : List Opened) → Matches actions (ForCall o ∷ opened)
    → actions ≡ Serves p u ∷ outer → ⊥
not_served [] o p u outer opened h is = absurd h
not_served (Writes q ∷ actions) o p u outer opened h is = absurd cc
not_served (a ∷ actions) o p u outer opened h is = absurd h

-- the innermost action has one caller
abbrev caller_of : List Action → ℕ
caller_of (Serves o u ∷ outer) = u
caller_of actions = 0

one_caller : (actions : List Action) (o u p v : ℕ) (one other : List Action) → actions ≡ Serves o u ∷ one → actions ≡ Serves p v ∷ other → u ≡ v
one_caller actions o u p v one other x y = ap caller_of (sym x ∙ y)

module _ (this : Scene) (s : TaskState) where
  open this use {quiet, i, program, g, numbers, has, schedule, note, k, t, calm, store, m, shares, w, known}

  abbrev f : Frame
  f = s.frame

  abbrev fs : List Frame
  fs = s.callers

  abbrev now : source.Here
  now = scene.now this

  -- ---- the return at the end of a body

  -- The frame of a body comes to its return: the values of these objects stand on the operand stack, each above its address.
  record IsReturning (names : List (List ℕ)) (addresses : List ℕ) : Type 0 where
    back : ℕ
    n : ℕ
    spends : Spends (behaviour i schedule) t frames_of (most_steps i) (suc (length fs)) n k (in_frame m (placed f f.place []) fs) k
        (in_frame m (placed f back (copies_on (results_in w.own.locals names) addresses [])) fs)
    low : n + 1 < size_of i f.subprogram + size_of i f.subprogram
    counted : length (results_in w.own.locals names) ≡ length names
    acts : (schedule' : List ScheduleLine) (m' : Words)
        → (let stack = copies_on (results_in w.own.locals names) addresses [] in act i schedule' k t (in_frame m' (placed f back stack) fs)
        ≡ steps.returns_to i schedule' k t m' (placed f back stack) fs fs f.role stack)

  returning : (items : List Item) (names : List (List ℕ)) (addresses : List ℕ) (a : Around i program g numbers)
      → LeadsEnd i program g numbers a f.subprogram f.place a.visible names addresses → RestsWith g a.visible a.held w.own f.locals
      → own_object i f ≡ w.own.within
      → length addresses ≡ length names → IsReturning names addresses
  returning items names addresses a end rests object many =
      let at = end.at in
      let back = end.gives.back in
      let up = jumps_up i program g numbers f.place at end.jumps in
      let on_ = end.gives.up in
      let x = end.from_inside in
      let y = end.to_inside in
      let place = place_of now items in
      let knows = end.narrows.shows place (view_of i schedule k t m f fs) (scene.sees_here this a.visible items f fs rests object) in
      let pushed = end.gives.pushes schedule k t m f fs place addresses calm knows (subst (λ q. AreHeld f.locals q) end.held rests.held) many in
      let stack = copies_on (results_in w.own.locals names) addresses [] in record {
        back = back;
        n = (at - f.place) + (back - at);
        spends = spends_trans (behaviour i schedule) t frames_of (most_steps i) (back - at) k (in_frame m (placed f back stack) fs)
            (scene.jumps_spend this f fs f.place at end.jumps) pushed.2;
        low = omega (arith, x.0, y.1, up, on_);
        counted = pushed.0;
        acts = λ schedule' m'.
            acts quiet i back op.Return end.gives.return schedule' k t m' f fs stack
            ∙ ap (λ n. steps.returns i schedule' k t m' (placed f back stack) fs n) (sym pushed.1)
            ∙ ap (λ b. cond b (steps.returns_to i schedule' k t m' (placed f back stack) fs fs f.role (take (length stack) stack))
            (steps.breaks i schedule' k t m' (placed f back stack) fs)) (nat_le_same (length stack))
            ∙ ap (λ q. steps.returns_to i schedule' k t m' (placed f back stack) fs fs f.role q) (take_whole stack);
      }

  -- ---- the end of a call

  -- where a body ends, the frame below goes on in this state; an action that the call opened ends
  abbrev left_by : (opened : Option ℕ) → Words → TaskState → steps.Stepped
  left_by None m' next = steps.does Quiet m' next.frame next.callers next.raising None
  left_by (Some o) m' next = steps.does (Ends (steps.is_open i m' o)) m' next.frame next.callers next.raising None

  returns_below : (schedule' : List ScheduleLine) (m' : Words) (body c : Frame) (below : List Frame) (stack : List ℤ) (opened : Option ℕ)
      → steps.returns_to i schedule' k t m' body (c ∷ below) (c ∷ below) (role_of opened) stack
      ≡ left_by opened m' (record { frame = steps.resumed c stack; callers = below; raising = None })
  returns_below schedule' m' body c below stack None = refl
  returns_below schedule' m' body c below stack (Some o) = refl

  -- The body of a call has come to its return, whose results are left to the frame below, which goes on in a way that the result is.
  record LeavesCall (P : List Value → (own : Activation) → List Activation → TaskState → Type 0) (names : List (List ℕ)) (opened : Option ℕ)
      (xs : List Target) : Type 0 where
    addresses : List ℕ
    returning : IsReturning names addresses
    own : Activation
    older : List Activation
    waiting : w.callers ≡ own ∷ older
    next : TaskState
    acts : (schedule' : List ScheduleLine) (m' : Words)
        → act i schedule' k t (in_frame m' (placed f returning.back (copies_on (results_in w.own.locals names) addresses [])) fs) ≡ left_by opened m' next
    goes_on : P (results_in w.own.locals names) own older next

  abbrev Copies : List Target → List Item → List Value → (own : Activation) → List Activation → TaskState → Type 0
  Copies xs items vs own older next = IsCopying i program g numbers note vs xs items own older next

  abbrev HasCompleted : List Target → List Item → List Value → (own : Activation) → List Activation → TaskState → Type 0
  HasCompleted xs items vs own older next = IsCompleted i program g numbers note (Completed vs xs) items own older next

  leaves_call : (names : List (List ℕ)) (opened : Option ℕ) (xs : List Target) (items : List Item)
      → (h : scene.IsAtItems this s (EndsCall names opened xs ∷ items))
      → (let r = h.follows in
      CallsOn i program g numbers (FollowsIn i program g numbers note items r.1.role r.2 r.4) r.5 r.1 r.3 r.6 r.7 names xs)
      → LeavesCall (Copies xs items) names opened xs
  leaves_call names opened xs items h b =
      let r = h.follows in
      let c = r.1 in
      let below = r.2 in
      let outer = r.5 in
      let ds = r.6 in
      let waits = b.waits in
      let addresses = addresses_of outer.visible.names xs in
      let l = ap length r.13 in
      let d = h.depth in
      let many = copy.placed_many outer.visible ds xs b.placed in
      let same = b.many in
      let back = returning items names addresses h.around r.9 h.rests h.object (many ∙ same) in
      let counted = back.counted in
      let stack = copies_on (results_in w.own.locals names) addresses [] in
      let body = placed f back.back stack in
      let targets = targets_many outer.visible.names xs in
      let frame : Frame = record { subprogram = c.subprogram; place = suc c.place; locals = c.locals; stack = stack; role = c.role } in record {
        addresses = addresses;
        returning = back;
        own = r.3;
        older = r.4;
        waiting = r.14;
        next = record { frame = frame; callers = below; raising = None };
        acts = λ schedule' m'.
            back.acts schedule' m'
            ∙ ap (λ q. steps.returns_to i schedule' k t m' body q q f.role stack) r.13
            ∙ ap (λ q. steps.returns_to i schedule' k t m' body (c ∷ below) (c ∷ below) q stack) r.8
            ∙ returns_below schedule' m' body c below stack opened
            ∙ (λ j. left_by opened m' (record {
              frame = record { subprogram = c.subprogram; place = following c.place j; locals = c.locals; stack = resting waits.stack stack j; role = c.role };
              callers = below;
              raising = None;
            }));
        goes_on = record {
          around = outer;
          destinations = ds;
          to = r.7;
          placed = b.placed;
          many = omega (arith, counted, many, same, targets);
          up = b.over;
          copies = b.copies;
          from_inside = waits.next;
          to_inside = b.inside;
          follows = b.follows;
          rests = waits.rests;
          object = waits.object;
          stack = refl;
          going = refl;
          depth = omega (arith, d, l);
          goes = goes_within i outer.raised c.place (suc c.place) r.7 r.7 b.goes (omega arith) (omega arith);
          handles = waits.handles;
        };
      }
    where
      following : (place : ℕ) → place + 1 ≡ suc place
      following place = omega arith

      resting : {left : List ℤ} → left ≡ [] → (stack : List ℤ) → stack ++ left ≡ stack
      resting e stack = ap (λ q. stack ++ q) e ∙ append_none stack

  -- The procedure of a handler has come to its return, above the frame that never runs.
  leaves_last : (names : List (List ℕ)) (o : ℕ) (xs : List Target) (items : List Item)
      → (h : scene.IsAtItems this s (EndsCall names (Some o) xs ∷ items))
      → (let r = h.follows in IsLastBelow i program g numbers r.1 r.2 names (Some o) xs items)
      → LeavesCall (HasCompleted xs items) names (Some o) xs
  leaves_last names o xs items h b =
      let r = h.follows in
      let c = r.1 in
      let below = r.2 in
      let outer = r.5 in
      let addresses = addresses_of outer.visible.names xs in
      let none : length addresses ≡ 0 = ap (λ q. length (addresses_of outer.visible.names q)) b.no_targets in
      let back = returning items names addresses h.around r.9 h.rests h.object (none ∙ sym (ap length b.no_names)) in
      let stack = copies_on (results_in w.own.locals names) addresses [] in
      let body = placed f back.back stack in record {
        addresses = addresses;
        returning = back;
        own = r.3;
        older = r.4;
        waiting = r.14;
        next = record { frame = steps.resumed c stack; callers = below; raising = None };
        acts = λ schedule' m'.
            back.acts schedule' m'
            ∙ ap (λ q. steps.returns_to i schedule' k t m' body q q f.role stack) r.13
            ∙ ap (λ q. steps.returns_to i schedule' k t m' body (c ∷ below) (c ∷ below) q stack) r.8
            ∙ returns_below schedule' m' body c below stack (Some o);
        goes_on = inr (record {
          lowest = b.lowest;
          callers = b.callers;
          last = b.last;
          bare = (ap (results_in w.own.locals) b.no_names, b.no_targets);
        });
      }

  -- the return of a body whose call has opened an action is still to be taken, which ends the action
  met_open : (names : List (List ℕ)) (o : ℕ) (xs : List Target) (items : List Item) → w.work ≡ Goes (EndsCall names (Some o) xs ∷ items)
      → (h : scene.IsAtItems this s (EndsCall names (Some o) xs ∷ items)) → LeavesCall (HasCompleted xs items) names (Some o) xs → scene.Meet this s
  met_open names o xs items is h r =
      let vs = results_in w.own.locals names in
      let low = r.returning.low in
      let work = Goes (EndsAction o (Completed vs xs) ∷ items) in
      let at_return = in_frame m (placed f r.returning.back (copies_on vs r.addresses [])) fs in
      let after' : source.SourceStepped = record {
        effect = Quiet;
        solo = record { memory = store; task = record { work = work; own = r.own; callers = r.older } };
        given = None;
      } in
      subst (scene.Meet this) (sym (scene.going_is this s h.stack h.going))
      (scene.quiet_from this (in_frame m (placed f f.place []) fs).task (r.returning.n + 1) at_return.task after'
      (ap (λ q. work_step now q) is ∙ ap (λ q. source.leaves now Quiet q work None) r.waiting) refl refl
      (spends_takes (behaviour i schedule) t frames_of (most_steps i) 1 k at_return r.returning.spends (Last refl))
      (omega (arith, low), λ some. omega (arith, low))
      (λ s' there. subst (λ q. CodeStands i program g numbers note k t after'.solo.task q) (sym there)
      (Closing o (Completed vs xs) items r.next refl calm.runs.running (record { ends = λ schedule' m' closed. r.acts schedule' m' }) r.goes_on))
      (subst (λ q. work_size work < work_size q) (sym is) (omega arith)))

  -- one that copies back has completed
  copying_completed : (names : List (List ℕ)) (opened : Option ℕ) (xs : List Target) (items : List Item) → LeavesCall (Copies xs items) names opened xs
      → LeavesCall (HasCompleted xs items) names opened xs
  copying_completed names opened xs items r = record {
    addresses = r.addresses;
    returning = r.returning;
    own = r.own;
    older = r.older;
    waiting = r.waiting;
    next = r.next;
    acts = r.acts;
    goes_on = inl r.goes_on;
  }

  met_plain : (names : List (List ℕ)) (xs : List Target) (items : List Item) → w.work ≡ Goes (EndsCall names None xs ∷ items)
      → (h : scene.IsAtItems this s (EndsCall names None xs ∷ items)) → LeavesCall (Copies xs items) names None xs → scene.Meet this s
  met_plain names xs items is h r =
      let vs = results_in w.own.locals names in
      let low = r.returning.low in
      let at_return = in_frame m (placed f r.returning.back (copies_on vs r.addresses [])) fs in
      let after' : source.SourceStepped = record {
        effect = Quiet;
        solo = record { memory = store; task = record { work = source.copying vs xs items; own = r.own; callers = r.older } };
        given = None;
      } in
      subst (scene.Meet this) (sym (scene.going_is this s h.stack h.going))
      (scene.moves_from this (in_frame m (placed f f.place []) fs).task (r.returning.n + 1) at_return after' (left_by None m r.next)
      (ap (λ q. work_step now q) is ∙ ap (λ q. source.leaves now Quiet q (source.copying vs xs items) None) r.waiting) (r.acts schedule m)
      (spends_takes (behaviour i schedule) t frames_of (most_steps i) 1 k at_return r.returning.spends (Last refl))
      (omega (arith, low), λ some. omega (arith, low))
      (record {
        effect = refl;
        leaves = copy.copying_stands i program g numbers note vs xs items r.own r.older (after t Quiet k) t r.next r.goes_on;
        words = shares;
      }))

  -- A body ends. If its call has opened an action, the return is still to be taken, which ends the action.
  pub met_ends : (names : List (List ℕ)) (opened : Option ℕ) (xs : List Target) (items : List Item) → w.work ≡ Goes (EndsCall names opened xs ∷ items)
      → (h : scene.IsAtItems this s (EndsCall names opened xs ∷ items)) → scene.Meet this s
  met_ends names None xs items is h =
      ⊎_elim (λ b. met_plain names xs items is h (leaves_call names None xs items h b)) (λ l. absurd (none-some l.opens.0 l.opens.1)) h.follows.15
  met_ends names (Some o) xs items is h =
      met_open names o xs items is h
      (⊎_elim (λ b. copying_completed names (Some o) xs items (leaves_call names (Some o) xs items h b)) (λ l. leaves_last names o xs items h l) h.follows.15)

  -- ---- the end of an action

  -- the step that ends the action, which a call has opened
  pub met_closing : (o : ℕ) (done : Completion) (items : List Item) (next : TaskState) → w.work ≡ Goes (EndsAction o done ∷ items)
      → EndsItsAction i program g numbers k t o s next → IsCompleted i program g numbers note done items w.own w.callers next → scene.MetFrom this s
  met_closing o done items next is ends h =
      let closed : source.SourceStepped = source.works now (Ends (is_open program store o)) (source.completed done items) in
      let opened = subst (λ q. Matches (k.actions t) (opened_in (items_of q))) is known.opened in
      scene.moves_from this s 1 (record { memory = m; task = s }) closed
      (steps.does (Ends (steps.is_open i m o)) m next.frame next.callers next.raising None) (ap (λ q. work_step now q) is)
      (ends.ends schedule m (scene.queues_closed this))
      (Last refl) (omega arith, λ some. omega (arith, some))
      (record {
        effect = ap Ends (sym (has.barriers store m o known.store known.values shares));
        leaves = inl (record {
          done = done;
          items = items;
          work = refl;
          goes_on = h;
          gives = λ p u outer there. absurd (not_served (k.actions t) o p u outer (opened_in items) opened there);
        });
        words = shares;
      }) s (scene.AtOnce refl)

  -- the body of an entry ends, whose caller is given the results
  pub met_ends_served : KnowsCaller k t s → (o : ℕ) (names : List (List ℕ)) (done : Completion) (items : List Item)
      → w.work ≡ Goes (EndsServed o names done ∷ items)
      → (h : scene.IsAtItems this s (EndsServed o names done ∷ items)) → scene.Meet this s
  met_ends_served knows o names done items is h =
      let r = h.follows in
      let u = r.0 in
      let c = r.2 in
      let below = r.3 in
      let pending = r.4 in
      let vs = results_in w.own.locals names in
      let stack = copies_on vs (note u) [] in
      let back = returning items names (note u) h.around r.9 h.rests h.object r.8 in
      let counted = back.counted in
      let named = r.8 in
      let low = back.low in
      let body = placed f back.back stack in
      let ended = Ends (is_open program store o) in
      let work = source.completed done items in
      let after' : source.SourceStepped = record {
        effect = ended;
        solo = record { memory = store; task = record { work = work; own = r.5; callers = r.6 } };
        given = Some (works.Results vs);
      } in
      let served = knows o u pending r.7 in
      subst (scene.Meet this) (sym (scene.going_is this s h.stack h.going))
      (scene.moves_from this (in_frame m (placed f f.place []) fs).task (back.n + 1) (in_frame m body fs) after'
      (steps.does (Ends (steps.is_open i m o)) m c below pending (Some (steps.Results stack)))
      (ap (λ q. work_step now q) is ∙ ap (λ q. source.leaves now ended q work (Some (works.Results vs))) r.14)
      (back.acts schedule m
      ∙ ap (λ q. steps.returns_to i schedule k t m body q q f.role stack) r.13
      ∙ ap (λ q. steps.returns_to i schedule k t m body (c ∷ below) (c ∷ below) q stack) r.7)
      (spends_takes (behaviour i schedule) t frames_of (most_steps i) 1 k (in_frame m body fs) back.spends (Last refl))
      (omega (arith, low), λ some. omega (arith, low))
      (record {
        effect = ap Ends (sym (has.barriers store m o known.store known.values shares));
        leaves = inl (record {
          done = done;
          items = items;
          work = refl;
          goes_on = r.15;
          gives = λ p v outer there.
              subst (λ q. GivesSame i program g numbers (note q) (Some (works.Results vs)) (Some (steps.Results stack)))
              (one_caller (k.actions t) o u p v served.0 outer served.1 there)
              (omega (arith, counted, named), refl);
        });
        words = shares;
      }))
