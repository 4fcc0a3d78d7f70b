-- Each step of a task is met by code.
use Rattle.std.proofs.Common.{◌≡◌, ℕ, suc, ◌<◌, List, [], ◌∷◌, Option, Some, None, refl, sym, ap, ◌∙◌, subst, arith}
use Rattle.kernel.specs.Laws.{QuietStays}
use Rattle.part_code.specs.image.specs.Frames.{Role, Frame, TaskState}
use Rattle.part_code.specs.image.specs.Steps as steps
use Rattle.part_code.specs.image.specs.Steps.{caught}
use Rattle.part_code.specs.ada_tree.specs.StatementTree.{LocalObject, LocalTask, LocalProtected, StmtTree, Null, Assignment, Exit, Return, Raise, DelayUntil, If, Case, Loop, Block, Forever, While, For}
use Rattle.part_code.specs.ada_tree.specs.declared.program.MainStatement.{MainStatement}
use Rattle.part_code.specs.ada_tree.specs.declared.program.MainStatement.TheVariants as main
use Rattle.part_code.specs.ada_tree.specs.ExpressionTree.{Arguments, MoreArguments, MoreSelectors, NameTree, NoArguments, NoSelectors, SelectorTrees, Text}
use Rattle.part_code.specs.types.specs.Entities.{Put}
use Rattle.part_code.specs.ada_tree.specs.ExpressionTree as expressions
use Rattle.part_code.specs.ada_tree.specs.StatementTree as tree
use Rattle.step_soundness.specs.meaning.specs.Calls.{Callee, callee_by}
use Rattle.step_soundness.specs.meaning.specs.Programs.{Procedure}
use Rattle.part_code.specs.types.specs.Values.{Value}
use Rattle.step_soundness.specs.meaning.specs.SourceSteps as source
use Rattle.step_soundness.specs.meaning.specs.SourceSteps.{work_step}
use Rattle.step_soundness.specs.meaning.specs.Works as works
use Rattle.step_soundness.specs.meaning.specs.Works.{Item, EndsServed, Queued, Target, Declares, DeclaresParameter, Sequence, Does, DoesMain, Repeats, RepeatsWhile, RepeatsFor, Handles, EndsHandler, EndsCall, Goes, Activation}
use Rattle.step_soundness.specs.Laws.{StepsAreSound}
use Rattle.part_code.specs.Resting.{Framed}
use Rattle.part_code.specs.Statements.{IsCallCode, IsCalleeCode, IsPutCode, OfEntry, OfOwnEntry, OfProcedure}
use Rattle.step_simulation.specs.Standing.{Awaiting, Catching, Closing, CodeStands, Copying, FollowsIn, Going, IsCatching, Over as Ended, Queueing, Raised, RaisesBy, Throwing, items_size, work_size}
use Rattle.step_simulation.specs.Laws.{KnowsCaller, StepsAreMet}
use Rattle.step_simulation.proofs.Scenes.{AtOnce, Keeping, Scene}
use Rattle.step_simulation.proofs.Scenes as scene
use Rattle.step_simulation.proofs.Turning as turn
use Rattle.step_simulation.proofs.Choosing as choose
use Rattle.step_simulation.proofs.Copying as copy
use Rattle.step_simulation.proofs.Calling as calls
use Rattle.step_simulation.proofs.Catching.{catches}
use Rattle.step_simulation.proofs.EntryCalls as entry_calls
use Rattle.step_simulation.proofs.Returning as returns
use Rattle.step_simulation.proofs.Counting as count
use Rattle.step_simulation.proofs.Delaying as delay
use Rattle.step_simulation.proofs.Raising as raising
use Rattle.step_simulation.proofs.Sequences as sequences

module _ (this : Scene) where
  open this use {quiet, i, program, g, numbers, has, schedule, k, t, calm, store, m, shares, w}

  abbrev now : source.Here
  now = scene.now this

  abbrev Meet : TaskState → Type 0
  Meet s = scene.Meet this s

  abbrev Setting : Type 0
  Setting = scene.Setting this

  abbrev seeing : Framed → Setting → Setting
  seeing v a = scene.seeing this v a

  abbrev Follow : Setting → (n from : ℕ) → List Item → Role → List Frame → List Activation → Type 0
  Follow a n from items role above waiting = scene.Follow this a n from items role above waiting

  module _ (s : TaskState) where
    abbrev f : Frame
    f = s.frame

    abbrev fs : List Frame
    fs = s.callers

    abbrev IsAtItems : List Item → Type 0
    IsAtItems items = scene.IsAtItems this s items

    met_main : (st : MainStatement) (items : List Item) → w.work ≡ Goes (DoesMain st ∷ items) → (h : IsAtItems (DoesMain st ∷ items)) → Meet s
    met_main (main.Null place) items is h =
        let r = h.follows in
        scene.met_items this s (source.goes now items) items (ap (λ q. work_step now q) is)
        (subst (λ q. suc (items_size items) < work_size q) (sym is) (omega arith)) h.stack h.going
        (seeing h.around.visible h.around)
        (scene.reached this s h.around f.place r.0 r.1 r.2 items r.3
        (subst (λ q. Follow (seeing r.2 h.around) f.subprogram q items f.role fs w.callers) (sym r.4) r.5))
        h.rests h.object h.depth
    met_main (main.Call package_ procedure) items is h = calls.met_main_call this s package_ procedure items is h

    -- ---- all

    -- a statement belongs to the protected object of the running body
    within_is : {st : StmtTree} (items : List Item) → (h : IsAtItems (Does st ∷ items)) → (let r = h.follows in w.own.within ≡ r.2.within)
    within_is items h =
        let r = h.follows in
        (scene.sees_here this r.2 items f fs (scene.narrowed this s h.around.visible r.2 w.own f.locals r.3.narrows h.rests) h.object).within

    met_called : (name : NameTree) (items : List Item) → w.work ≡ Goes (Does (tree.Call name) ∷ items) → (h : IsAtItems (Does (tree.Call name) ∷ items))
        → (o : Option Callee) → (let r = h.follows in callee_by program r.2.within name.first name.selectors ≡ o)
        → (let r = h.follows in IsCalleeCode i program g numbers r.2 r.0 r.1 name o) → Meet s
    met_called name items is h (Some c) e code =
        by_code code
        (ap (λ q. source.call_or_put now name (callee_by program q name.first name.selectors) items) (within_is items h) ∙ ap
        (λ q. source.call_or_put now name q items) e)
      where
        by_code : (let r = h.follows in IsCallCode i program g numbers r.2 r.0 r.1 c)
            → source.item_step now (Does (tree.Call name)) items ≡ source.call_of now c c.procedure.barrier items → Meet s
        by_code (OfProcedure call) same = calls.met_call this s name c items is h e same call
        by_code (OfEntry call) same = entry_calls.met_entry_call this s name c items is h same call
        by_code (OfOwnEntry call) same = entry_calls.met_own_entry this s name c items is h e (within_is items h) same call
    met_called name items is h None e code =
        by_selectors name.selectors code.1
        (ap (λ q. source.call_or_put now name (callee_by program q name.first name.selectors) items) (within_is items h) ∙ ap
        (λ q. source.call_or_put now name q items) e
        ∙ ap (λ q. source.put_call now q name.selectors items) code.0)
      where
        by_selectors : (selectors : SelectorTrees) → (let r = h.follows in IsPutCode i program g numbers r.2 r.0 r.1 selectors)
            → source.item_step now (Does (tree.Call name)) items ≡ source.put_call now (Some Put) selectors items → Meet s
        by_selectors (MoreSelectors (Arguments (MoreArguments (Text label at) (MoreArguments (expressions.Value v) NoArguments))) NoSelectors) put same =
            turn.met_put this s name label at v items is h same put
        by_selectors other put same = absurd put

    met_statement : (st : StmtTree) (items : List Item) → w.work ≡ Goes (Does st ∷ items) → (h : IsAtItems (Does st ∷ items)) → Meet s
    met_statement (Null place) items is h = scene.met_null this s place items is h
    met_statement (Assignment name e) items is h = turn.met_assignment this s name e items is h
    met_statement (tree.Call name) items is h =
        met_called name items is h (let r = h.follows in callee_by program r.2.within name.first name.selectors) refl h.follows.4.0
    met_statement (Exit place None) items is h = scene.met_exit this s place items is h
    met_statement (Exit place (Some e)) items is h = turn.met_exit_when this s place e items is h
    met_statement (Return place None) items is h = scene.met_return this s place items is h
    met_statement (Raise place name) items is h = raising.met_raise this s place name items is h
    met_statement (DelayUntil place e) items is h = delay.met_delay this s place e items is h
    met_statement (If place e body elsifs others) items is h = turn.met_if this s place e body elsifs others items is h
    met_statement (Case place e all) items is h = choose.met_case this s place e all items is h
    met_statement (Loop place Forever body) items is h = turn.met_forever this s place body items is h
    met_statement (Loop place (While e) body) items is h = turn.met_while this s place e body items is h
    met_statement (Loop place (For parameter reversed range) body) items is h = count.met_for this s place parameter reversed range body items is h
    met_statement (Block place ds body hs) items is h = sequences.met_block this s place ds body hs items is h
    met_statement other items is h = absurd h.follows.4

    met_going : KnowsCaller k t s → (all : List Item) → w.work ≡ Goes all → IsAtItems all → Meet s
    met_going knows [] is h = scene.met_end this s is h
    met_going knows (Declares (LocalObject d) ∷ items) is h = turn.met_declares this s d items is h
    met_going knows (Sequence body hs ∷ items) is h = sequences.met_sequence this s body hs items is h
    met_going knows (Does st ∷ items) is h = met_statement st items is h
    met_going knows (DoesMain st ∷ items) is h = met_main st items is h
    met_going knows (Handles hs ∷ items) is h = sequences.met_handles this s hs items is h
    met_going knows (EndsHandler x ∷ items) is h = sequences.met_ends_handler this s x items is h
    met_going knows (Repeats body ∷ items) is h = turn.met_repeats this s body items is h
    met_going knows (RepeatsWhile e body ∷ items) is h = turn.met_repeats_while this s e body items is h
    met_going knows (DeclaresParameter p ∷ items) is h = turn.met_parameter this s p items is h
    met_going knows (RepeatsFor parameter reversed now' last body ∷ items) is h = count.met_next this s parameter reversed now' last body items is h
    met_going knows (EndsCall names opened xs ∷ items) is h = returns.met_ends this s names opened xs items is h
    met_going knows (EndsServed o names done ∷ items) is h = returns.met_ends_served this s knows o names done items is h
    met_going knows (Declares (LocalTask d) ∷ items) is h = absurd h.follows.6
    met_going knows (Declares (LocalProtected d) ∷ items) is h = absurd h.follows.6
    met_going knows (other ∷ items) is h = absurd h.follows

  -- the instruction that keeps the exception, and then the step
  met_catching : (s : TaskState) → KnowsCaller k t s → (items : List Item) → w.work ≡ Goes items
      → IsCatching i program g numbers this.note items w.own w.callers s → scene.MetFrom this s
  met_catching s knows items is h =
      let inside = h.inside in
      let kept : TaskState = record { frame = record s.frame { place = h.place; locals = h.locals; stack = [] }; callers = s.callers; raising = None } in
      met_going kept knows items is h.going s (Keeping (h.acts schedule k t m) refl refl refl (omega (arith, inside.0, inside.1)))

  -- an action has ended with an exception that is still to be raised
  met_throwing : (s : TaskState) (x : ℕ) (items : List Item) → w.work ≡ works.Raising x items → s.raising ≡ Some x
      → RaisesBy i program g numbers (FollowsIn i program g numbers this.note items s.frame.role s.callers w.callers) x items w.own s.frame s.callers
      → scene.MetFrom this s
  met_throwing s x items is pending h =
      raising.met_raised this s x items s.frame s.callers is
      (record { raises = λ schedule' m' closed. ap (λ r. steps.does_or_raises i schedule' k t m' s.frame s.callers r) pending })
      (catches i program g numbers this.note items x s.frame s.callers w.own w.callers (scene.have_room this) h)

  -- the task that runs waits in no entry call
  not_waiting : (q : Procedure) (vs : List Value) (xs : List Target) (items : List Item) → w.work ≡ Goes (Queued q vs xs ∷ items) → ⊥
  not_waiting q vs xs items is = scene.has_meaning this items (ap (λ x. work_step now x) is)

  pub met_by : (s : TaskState) → KnowsCaller k t s → CodeStands i program g numbers this.note k t w s → scene.MetFrom this s
  met_by s knows (Going items is h) = met_going s knows items is h s (AtOnce refl)
  met_by s knows (Copying vs xs items is h) = copy.met_copies this s vs xs items is h s (AtOnce refl)
  met_by s knows (Catching items is h) = met_catching s knows items is h
  met_by s knows (Raised x items g' gs is here throws caught) = raising.met_raised this s x items g' gs is throws caught
  met_by s knows (Throwing x items is pending h) = met_throwing s x items is pending h
  met_by s knows (Closing o done items next is here ends h) = returns.met_closing this s o done items next is ends h
  met_by s knows (Queueing o q vs xs items is here h) = absurd (not_waiting q vs xs items is)
  met_by s knows (Awaiting q vs xs items is here h) = absurd (not_waiting q vs xs items is)
  met_by s knows (Ended o h) = let e = calm.runs.on in absurd cc

pub steps_are_met : QuietStays → StepsAreSound → StepsAreMet
steps_are_met quiet step_soundness i program g numbers has premises schedule inputs note k t calm store m w s known knows shares stands =
    met_by (record {
      quiet = quiet;
      step_soundness = step_soundness;
      i = i;
      program = program;
      g = g;
      numbers = numbers;
      has = has;
      premises = premises;
      schedule = schedule;
      note = note;
      k = k;
      t = t;
      calm = calm;
      store = store;
      m = m;
      shares = shares;
      w = w;
      known = known;
      inputs = inputs;
    }) s knows stands
