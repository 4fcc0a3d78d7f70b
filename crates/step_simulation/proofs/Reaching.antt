-- Behind the effect of a step all tasks stand for their work again: those that it leaves alone, and those that it reaches.
use Rattle.std.proofs.Common.{◌≡◌, ◌≢◌, ℕ, suc, ◌+◌, ℤ, List, [], ◌∷◌, length, Option, Some, None, Bool, true, false, inl, inr, refl, sym, ap, ◌∙◌, subst, arith}
use Rattle.std.specs.Prelude.{◌++◌, drop, reverse}
use Rattle.kernel.specs.State.{Kernel, put}
use Rattle.kernel.specs.PutLaws.{put_other, put_same}
use Rattle.part_code.specs.image.specs.Sections.{Sections}
use Rattle.part_code.specs.image.specs.Operations.{called_if, entry_called, parameters_of}
use Rattle.part_code.specs.image.specs.Frames.{Frame, Serving, TaskState, arguments, new_frame}
use Rattle.part_code.specs.image.specs.Steps as steps
use Rattle.part_code.specs.image.specs.Steps.{behaviour}
use Rattle.part_code.specs.types.specs.Values.{Value}
use Rattle.step_soundness.specs.meaning.specs.Calls.{activation_of, body_items, results}
use Rattle.step_soundness.specs.meaning.specs.Meeting.{received}
use Rattle.step_soundness.specs.meaning.specs.Programs.{Procedure, Program}
use Rattle.step_soundness.specs.meaning.specs.SourceSteps as source
use Rattle.step_soundness.specs.meaning.specs.SourceSteps.{completed, completion_of, items_of, program_behaviour, serves, serving}
use Rattle.step_soundness.specs.meaning.specs.Works as works
use Rattle.step_soundness.specs.meaning.specs.Works.{Item, EndsServed, Queued, Completion, Completed, Pending, Work, Goes, Activation, GivenToCaller, Target, TaskWork}
use Rattle.step_soundness.specs.Objects.{IsException}
use Rattle.part_code.specs.expr_code.specs.Seeing.{Package}
use Rattle.part_code.specs.expr_code.proofs.CallFrames.{arguments_are, base_is}
use Rattle.part_code.specs.Copying.{addresses_of, copies_on, passed_words}
use Rattle.part_code.specs.Statements.{IsProcedureCode, Numbers}
use Rattle.part_code.proofs.Handling.{goes_within}
use Rattle.step_simulation.specs.Standing.{Awaiting, Catching, Closing, CodeStands, Copying, Follows, GivesSame, Going, HasEnded, IsAtCall, IsCompleted, IsCopying, Note, Over, Queueing, Raised, Throwing, frames_in}
use Rattle.step_simulation.specs.Laws.{EffectsAreMet, EndersStand, HasCode, HasEntry, IsInQueue, OthersStand, QueuersStand, ServedStand, ServersStand}
use Rattle.step_simulation.proofs.Catching.{shown}
use Rattle.step_simulation.proofs.Copying.{copying_stands, placed_many}
use Rattle.step_simulation.proofs.Entering.{entered, entered_frame}
use Rattle.step_simulation.proofs.Returning.{append_none, targets_many}
use Rattle.step_simulation.proofs.UnderNotes.{Same, all_served, call_under, catching_under, copying_under, going_under, throwing_under}

-- ---- what a task has still to do

items_are : (done : Completion) (items : List Item) → items_of (completed done items) ≡ items
items_are (Pending x) items = refl
items_are (Completed [] xs) items = refl
items_are (Completed (v ∷ vs) []) items = refl
items_are (Completed (v ∷ vs) (x ∷ xs)) items = refl

-- as many results as targets
abbrev IsEven : Completion → Type 0
IsEven (Completed vs xs) = length vs ≡ length xs
IsEven (Pending x) = Unit {0}

completion_is : (done : Completion) (items : List Item) → IsEven done → completion_of (completed done items) ≡ done
completion_is (Pending x) items h = refl
completion_is (Completed [] []) items h = refl
completion_is (Completed [] (x ∷ xs)) items h = absurd (omega (arith, h))
completion_is (Completed (v ∷ vs) []) items h = absurd (omega (arith, h))
completion_is (Completed (v ∷ vs) (x ∷ xs)) items h = refl

module _ (i : Sections) (program : Program) (g : Package) (numbers : Numbers) where
  -- ---- tasks that are left alone

  pub others_stand : OthersStand i program g numbers
  others_stand note next k l v w s alone (Going items is h) = Going items is (going_under i program g numbers note next items w.own w.callers s alone.served h)
  others_stand note next k l v w s alone (Copying vs xs items is h) =
      Copying vs xs items is (copying_under i program g numbers note next items w.own w.callers s alone.served vs xs h)
  others_stand note next k l v w s alone (Catching items is h) =
      Catching items is (catching_under i program g numbers note next items w.own w.callers s alone.served h)
  others_stand note next k l v w s alone (Raised x items f fs is running raises caught) = absurd (alone.running running)
  others_stand note next k l v w s alone (Throwing x items is pending h) =
      Throwing x items is pending (throwing_under i program g numbers note next items w.own w.callers s alone.served x h)
  others_stand note next k l v w s alone (Closing o done items after is running ends h) = absurd (alone.running running)
  others_stand note next k l v w s alone (Queueing o q vs xs items is queued h) =
      Queueing o q vs xs items is (alone.queues o queued)
      (subst (λ a. IsAtCall i program g numbers next q vs xs a true items w.own w.callers s) (sym alone.own)
      (call_under i program g numbers note next items w.own w.callers s alone.served q vs xs (note v) true h))
  others_stand note next k l v w s alone (Awaiting q vs xs items is none h) =
      Awaiting q vs xs items is (λ o there. none o (alone.queued o there))
      (subst (λ a. IsAtCall i program g numbers next q vs xs a false items w.own w.callers s) (sym alone.own)
      (call_under i program g numbers note next items w.own w.callers s alone.served q vs xs (note v) false h))
  others_stand note next k l v w s alone (Over o over) = let on = alone.on in absurd cc

  -- ---- a task that has queued

  pub queuers_stand : QueuersStand i program g numbers
  queuers_stand note k l t o w s h apart there =
      let next : Note = put t h.addresses note in
      Queueing o h.q h.vs h.xs h.items h.work there
      (subst (λ a. IsAtCall i program g numbers next h.q h.vs h.xs a true h.items w.own w.callers s) (sym (put_same t t h.addresses note refl))
      (call_under i program g numbers note next h.items w.own w.callers s
      (all_served (λ u. u ≢ t) (Same i program g numbers note next) (λ u ne. put_other t u h.addresses note ne) (s.frame ∷ s.callers) apart)
      h.q h.vs h.xs h.addresses true h.at_call))

  -- ---- a task that has ended an action

  pub enders_stand : EndersStand i program g numbers
  enders_stand note k l t w s p q high h = by_completion h.done h.work h.goes_on
    where
      by_completion : (done : Completion) → w.work ≡ completed done h.items → IsCompleted i program g numbers note done h.items w.own w.callers s
          → CodeStands i program g numbers note l t w s
      by_completion done is (inr lowest) = absurd (high lowest.lowest)
      by_completion (Completed vs xs) is (inl goes_on) =
          subst (λ u. CodeStands i program g numbers note l t u s) (λ j. record { work = sym is j; own = w.own; callers = w.callers })
          (copying_stands i program g numbers note vs xs h.items w.own w.callers l t s goes_on)
      by_completion (Pending x) is (inl goes_on) = Throwing x h.items is goes_on.0 goes_on.1

  -- ---- callers that wait

  -- the task stands at its call, with this work
  abbrev StandsAtCall : Note → (u : ℕ) → (passed : Bool) → TaskWork → TaskState → Work → Type 0
  StandsAtCall note u passed caller state (Goes (Queued q vs xs ∷ items)) =
      IsAtCall i program g numbers note q vs xs (note u) passed items caller.own caller.callers state
  StandsAtCall note u passed caller state w = ⊥

  module _ (note : Note) (k : Kernel) (u : ℕ) (caller : TaskWork) (state : TaskState) (q : Procedure) (vs : List Value) (xs : List Target) (items : List Item)
      (on : k.outcome ≡ None) (running : k.running ≢ Some u) (work : caller.work ≡ Goes (Queued q vs xs ∷ items)) where
    -- no code goes on from a call that waits
    going_not : (all : List Item) → caller.work ≡ Goes all → (a : _) (n from : ℕ) (role : _) (fs : List Frame) (os : List Activation)
        → Follows i program g numbers note a n from all role fs os → ⊥
    going_not all is a n from role fs os follows =
        subst (λ l. Follows i program g numbers note a n from l role fs os) (ap items_of (sym is ∙ work)) follows

    queueing : (o : ℕ) → k.queued o ≡ Some u → CodeStands i program g numbers note k u caller state
        → IsAtCall i program g numbers note q vs xs (note u) true items caller.own caller.callers state
    queueing o there (Going all is h) =
        absurd (going_not all is h.around state.frame.subprogram state.frame.place state.frame.role state.callers caller.callers h.follows)
    queueing o there (Copying ws ys rest is h) = let never = sym is ∙ work in absurd cc
    queueing o there (Catching all is h) =
        absurd (going_not all is h.going.around state.frame.subprogram h.place state.frame.role state.callers caller.callers h.going.follows)
    queueing o there (Raised x rest f fs is here raises caught) = absurd (running here)
    queueing o there (Throwing x rest is pending h) = let never = sym is ∙ work in absurd cc
    queueing o there (Closing p done rest next is here ends h) = absurd (running here)
    queueing o there (Queueing p r ws ys rest is queued h) = subst (StandsAtCall note u true caller state) (sym is ∙ work) h
    queueing o there (Awaiting r ws ys rest is none h) = absurd (none o there)
    queueing o there (Over p over) = absurd cc

    awaiting : ((o : ℕ) → k.queued o ≢ Some u) → CodeStands i program g numbers note k u caller state
        → IsAtCall i program g numbers note q vs xs (note u) false items caller.own caller.callers state
    awaiting out (Going all is h) =
        absurd (going_not all is h.around state.frame.subprogram state.frame.place state.frame.role state.callers caller.callers h.follows)
    awaiting out (Copying ws ys rest is h) = let never = sym is ∙ work in absurd cc
    awaiting out (Catching all is h) =
        absurd (going_not all is h.going.around state.frame.subprogram h.place state.frame.role state.callers caller.callers h.going.follows)
    awaiting out (Raised x rest f fs is here raises caught) = absurd (running here)
    awaiting out (Throwing x rest is pending h) = let never = sym is ∙ work in absurd cc
    awaiting out (Closing p done rest next is here ends h) = absurd (running here)
    awaiting out (Queueing p r ws ys rest is queued h) = absurd (out p queued)
    awaiting out (Awaiting r ws ys rest is none h) = subst (StandsAtCall note u false caller state) (sym is ∙ work) h
    awaiting out (Over p over) = absurd cc

  -- ---- a task that runs the body of the entry for a caller

  -- as many frames as its items will end; as many results as targets
  completed_depth : (note : Note) (done : Completion) (items : List Item) (own : Activation) (os : List Activation) (s : TaskState)
      → IsCompleted i program g numbers note done items own os s → length s.callers ≡ frames_in items
  completed_depth note done items own os s (inr h) = ap length h.callers ∙ sym (ap frames_in h.last)
  completed_depth note (Completed vs xs) items own os s (inl h) = h.depth
  completed_depth note (Pending x) items own os s (inl h) = h.1.depth

  completed_even : (note : Note) (done : Completion) (items : List Item) (own : Activation) (os : List Activation) (s : TaskState)
      → IsCompleted i program g numbers note done items own os s → IsEven done
  completed_even note (Completed vs xs) items own os s (inl h) = h.many
  completed_even note (Completed vs xs) items own os s (inr h) = ap length h.bare.0 ∙ sym (ap length h.bare.1)
  completed_even note (Pending x) items own os s h = tt

  module _ (has : HasCode i program g numbers) (note : Note) (k l : Kernel) (t o u : ℕ) (w caller : TaskWork) (s state : TaskState) (x : Option GivenToCaller)
      (y : Option steps.Given) (q : Procedure) (vs : List Value) (xs : List Target) (items : List Item)
      (ended : HasEnded i program g numbers note k t w s x y) (queue : IsInQueue program k o u caller q vs xs items)
      (at : IsAtCall i program g numbers note q vs xs (note u) true items caller.own caller.callers state) where
    abbrev entry : HasEntry i program g numbers o q
    entry = has.entries o q queue.entry

    abbrev proc : IsProcedureCode i program g numbers q entry.number
    proc = entry.code

    abbrev words : List ℤ
    words = passed_words q.parameters vs (note u)

    called_is : entry_called i o ≡ Some proc.s
    called_is = ap (called_if i) entry.row ∙ proc.there

    addresses_many : length (note u) ≡ length (results q.parameters)
    addresses_many = ap length at.addressed ∙ placed_many at.around.visible at.destinations xs at.placed ∙ at.many

    many : length words ≡ proc.s.parameters
    many = proc.parameters vs (note u) at.shaped addresses_many

    -- what it has passed stands alone on the caller's operand stack
    stack_is : state.frame.stack ≡ reverse words ++ []
    stack_is = at.stack ∙ sym (append_none (reverse words))

    passed_is : arguments proc.s.parameters state.frame.stack ≡ words
    passed_is = ap (arguments proc.s.parameters) stack_is ∙ arguments_are proc.s.parameters words [] many

    abbrev served_work : TaskWork
    served_work = record {
      work = Goes (body_items q (EndsServed o (results q.parameters) ended.done) ended.items);
      own = activation_of q vs;
      callers = w.own ∷ w.callers;
    }

    work_is : serving o caller w ≡ served_work
    work_is =
        ap (λ z. serves o z w) queue.work
        ∙ (λ j. record {
          work = Goes (body_items q (EndsServed o (results q.parameters) (completion_of (ended.work j))) (items_of (ended.work j)));
          own = activation_of q vs;
          callers = w.own ∷ w.callers;
        })
        ∙ (λ j. record {
          work = Goes (body_items q
              (EndsServed o (results q.parameters)
              (completion_is ended.done ended.items (completed_even note ended.done ended.items w.own w.callers s ended.goes_on) j))
              (items_are ended.done ended.items j));
          own = activation_of q vs;
          callers = w.own ∷ w.callers;
        })

    abbrev served_state : TaskState
    served_state = record {
      frame = entered_frame i program g numbers note q entry.number proc vs (note u) (Serving o u s.raising);
      callers = s.frame ∷ s.callers;
      raising = None;
    }

    state_is : steps.serving i o u state s ≡ served_state
    state_is =
        (λ j. steps.serving_with i o u state s (entry.row j) (called_is j))
        ∙ (λ j. record { frame = new_frame i entry.number proc.s (passed_is j) (Serving o u s.raising); callers = s.frame ∷ s.callers; raising = None })

    server_stands : CodeStands i program g numbers note l t (serving o caller w) (steps.serving i o u state s)
    server_stands =
        subst (λ a. CodeStands i program g numbers note l t a (steps.serving i o u state s)) (sym work_is)
        (subst (λ b. CodeStands i program g numbers note l t served_work b) (sym state_is)
        (Going (body_items q (EndsServed o (results q.parameters) ended.done) ended.items) refl
        (entered i program g numbers note q entry.number proc vs (note u) at.shaped at.typed addresses_many
        (EndsServed o (results q.parameters) ended.done) ended.items (Serving o u s.raising) (s.frame ∷ s.callers) (w.own ∷ w.callers)
        (ap suc (completed_depth note ended.done ended.items w.own w.callers s ended.goes_on))
        (λ a n from ret way same here there. (
          u,
          ret,
          s.frame,
          s.callers,
          s.raising,
          w.own,
          w.callers,
          refl,
          addresses_many,
          here,
          way,
          same,
          there,
          refl,
          refl,
          ended.goes_on,
        )))))

    -- the caller waits on, without what it has passed
    caller_stands : ((p : ℕ) → l.queued p ≢ Some u) → CodeStands i program g numbers note l u caller (steps.taken i o state)
    caller_stands out = Awaiting q vs xs items queue.work out (record {
      around = at.around;
      destinations = at.destinations;
      to = at.to;
      shaped = at.shaped;
      typed = at.typed;
      addressed = at.addressed;
      placed = at.placed;
      many = at.many;
      over = at.over;
      copies = at.copies;
      here = at.here;
      next = at.next;
      to_inside = at.to_inside;
      follows = at.follows;
      rests = at.rests;
      object = at.object;
      stack = (λ j. drop (parameters_of (called_is j)) (stack_is j)) ∙ base_is proc.s.parameters words [] many;
      going = at.going;
      depth = at.depth;
      goes = at.goes;
      handles = at.handles;
    })

  pub servers_stand : ServersStand i program g numbers
  servers_stand has note k l t o u w caller s state x y q vs xs items ended queue out stands =
      let at = queueing note k u caller state q vs xs items queue.on queue.running queue.work o queue.queued stands in (
        server_stands has note k l t o u w caller s state x y q vs xs items ended queue at,
        caller_stands has note k l t o u w caller s state x y q vs xs items ended queue at out,
      )

  -- ---- a caller that was served

  module _ (note : Note) (l : Kernel) (u : ℕ) (caller : TaskWork) (state : TaskState) (q : Procedure) (vs : List Value) (xs : List Target) (items : List Item)
      (work : caller.work ≡ Goes (Queued q vs xs ∷ items))
      (at : IsAtCall i program g numbers note q vs xs (note u) false items caller.own caller.callers state) where
    -- the results stand on its operand stack, and are still to be copied back
    results_stand : (rs : List Value) (words : List ℤ) → length rs ≡ length (note u) → words ≡ copies_on rs (note u) []
        → CodeStands i program g numbers note l u (record caller { work = source.received (works.Results rs) caller.work })
        (record state { frame = steps.resumed state.frame words })
    results_stand rs words many same =
        let over = at.over in
        let targets = targets_many at.around.visible.names xs in
        let addressed = ap length at.addressed in
        let next : TaskState = record state {
          frame = record state.frame { place = suc state.frame.place; stack = copies_on rs (addresses_of at.around.visible.names xs) [] };
        } in
        let copying : IsCopying i program g numbers note rs xs items caller.own caller.callers next = record {
          around = at.around;
          destinations = at.destinations;
          to = at.to;
          placed = at.placed;
          many = omega (arith, many, targets, addressed);
          up = over;
          copies = at.copies;
          from_inside = at.next;
          to_inside = at.to_inside;
          follows = at.follows;
          rests = at.rests;
          object = at.object;
          stack = refl;
          going = at.going;
          depth = at.depth;
          goes = goes_within i at.around.raised state.frame.place (suc state.frame.place) at.to at.to at.goes (omega arith) (omega arith);
          handles = at.handles;
        } in
        subst (λ a. CodeStands i program g numbers note l u a (record state { frame = steps.resumed state.frame words }))
        (λ j. record caller { work = source.received (works.Results rs) (sym work j) })
        (subst (λ b. CodeStands i program g numbers note l u (record caller { work = source.copying rs xs items }) b) (sym next_is)
        (copying_stands i program g numbers note rs xs items caller.own caller.callers l u next copying))
      where
        following : (place : ℕ) → place + 1 ≡ suc place
        following place = omega arith

        stack_is : words ++ state.frame.stack ≡ copies_on rs (addresses_of at.around.visible.names xs) []
        stack_is = ap (λ z. words ++ z) at.stack ∙ append_none words ∙ same ∙ ap (λ z. copies_on rs z []) at.addressed

        next_is : record state { frame = steps.resumed state.frame words }
            ≡ record state {
              frame = record state.frame {
                place = suc state.frame.place;
                stack = copies_on rs (addresses_of at.around.visible.names xs) [];
              };
            }
        next_is = λ j. record state { frame = record state.frame { place = following state.frame.place j; stack = stack_is j } }

    -- the exception is raised at its call
    exception_stands : (x y : ℕ) → x ≡ y → IsException program x
        → CodeStands i program g numbers note l u (record caller { work = source.received (works.Raised x) caller.work }) (record state { raising = Some y })
    exception_stands x y same known =
        let over = at.over in
        Throwing x items (ap (source.received (works.Raised x)) work) (ap Some (sym same))
        (record {
          around = at.around;
          from = at.to;
          follows = at.follows;
          known = known;
          goes = at.goes state.frame.place x (omega arith) (omega (arith, over));
          rests = shown i program g numbers note at.around.visible at.around.handling caller.own state.frame.locals at.handles at.rests.rests;
          held = at.rests.held;
          apart = at.rests.apart;
          object = at.object;
          depth = at.depth;
        })

  pub served_stand : ServedStand i program g numbers
  served_stand note k l u caller state x y q vs xs items schedule same service stands =
      by_given x y same
    where
      at : IsAtCall i program g numbers note q vs xs (note u) false items caller.own caller.callers state
      at = awaiting note k u caller state q vs xs items service.on service.running service.work service.queued stands

      by_given : (x : Option GivenToCaller) (y : Option steps.Given) → GivesSame i program g numbers (note u) x y
          → CodeStands i program g numbers note l u (received (program_behaviour program schedule) x caller) (received (behaviour i schedule) y state)
      by_given (Some (works.Results rs)) (Some (steps.Results ws)) same =
          results_stand note l u caller state q vs xs items service.work at rs ws same.0 same.1
      by_given (Some (works.Raised x)) (Some (steps.Raised y)) same = exception_stands note l u caller state q vs xs items service.work at x y same.0 same.1
      by_given None y same = absurd same
      by_given (Some (works.Results rs)) None same = absurd same
      by_given (Some (works.Results rs)) (Some (steps.Raised y)) same = absurd same
      by_given (Some (works.Raised x)) None same = absurd same
      by_given (Some (works.Raised x)) (Some (steps.Results ws)) same = absurd same

pub effects_are_met : EffectsAreMet
effects_are_met = record {
  others = others_stand;
  queuers = queuers_stand;
  enders = enders_stand;
  servers = servers_stand;
  served = served_stand;
}
