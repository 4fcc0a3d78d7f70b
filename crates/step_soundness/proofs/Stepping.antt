-- Every step of a task that does not wait in an entry call has a meaning, and all holds after it.
use Rattle.std.proofs.Common.{◌≡◌, List, [], ◌∷◌, None, refl, sym, subst}
use Rattle.std.specs.Prelude.{⊤}
use Rattle.expr_soundness.specs.kernel.specs.Effects.{Dies, Finishes}
use Rattle.expr_soundness.specs.ada_tree.specs.declared.program.MainStatement.{MainStatement}
use Rattle.expr_soundness.specs.ada_tree.specs.declared.program.MainStatement.TheVariants as main
use Rattle.expr_soundness.specs.ada_tree.specs.StatementTree.{HandlerTrees, StmtTrees}
use Rattle.expr_soundness.specs.types.specs.Scopes.{Scope}
use Rattle.stmt_rules.specs.declared.around.Around.{Around}
use Rattle.stmt_rules.specs.StatementRules.{stmt_faults}
use Rattle.expr_soundness.specs.meaning.specs.Works.{Item, Declares, DeclaresParameter, Sequence, Does, DoesMain, Repeats, RepeatsWhile, RepeatsFor, Handles, EndsHandler, EndsCall, EndsAction, EndsServed, Queued, Work, Goes, Copies, Raising}
use Rattle.expr_soundness.specs.meaning.specs.Calls.{Actuals}
use Rattle.expr_soundness.specs.meaning.specs.SourceSteps.{Here, before, goes, here_of, item_step, items_of, main_call, main_step, work_step}
use Rattle.step_soundness.specs.Opened.{IsHeld, opened_in}
use Rattle.step_soundness.specs.Judged.{AreFaultless, AreFaultlessHandlers, IsMainStatement, IsReady, IsWork, Waiting}
use Rattle.step_soundness.specs.Holding.{IsSoundStep}
use Rattle.step_soundness.specs.Laws.{Premises, StepsAreSound}
use Rattle.step_soundness.proofs.Sights.{narrows_same}
use Rattle.step_soundness.proofs.Going.{At, Behind, Current, at_goes, before_judged, opened_before, went, worked}
use Rattle.step_soundness.proofs.Turning.{forever_sound, next_sound, while_sound}
use Rattle.step_soundness.proofs.Stating.{statement_sound}
use Rattle.step_soundness.proofs.Ending.{action_sound, copy_sound, end_sound, raise_step_sound, served_end_sound}
use Rattle.step_soundness.proofs.Passing.{ActualsFit}
use Rattle.step_soundness.proofs.Calling.{found_here, held_here, plain_sound}
use Rattle.step_soundness.proofs.Callees.{call_sound}
use Rattle.step_soundness.proofs.Elaborating.{declares_sound, parameter_sound}

module _ (h : Here) (s : Scope) (outer : List Waiting) (laws : Premises h.program) (c : Current h s outer) (a : Around) where
  -- main: calls of procedures without parameters
  main_sound : (m : MainStatement) (items : List Item) → At h s outer a items → IsMainStatement h.program m → IsSoundStep h (opened_in items) (main_step h m items)
  main_sound (main.Null place) items at legal = at_goes h s outer a items at
  main_sound (main.Call package_ name) items at legal =
      let q = legal.0 in
      let x : Actuals = record { values = []; targets = [] } in
      let here = found_here h.program None name.name q legal.1 in
      let fit : ActualsFit (λ t v. ⊤) h.program h.own q.parameters x = subst (λ fs. ActualsFit (λ t v. ⊤) h.program h.own fs x) (sym legal.2) (tt, tt, tt) in
      subst (λ o. IsSoundStep h (opened_in items) (main_call h o items)) (sym legal.1)
      (plain_sound (λ t v. ⊤) h s outer a items laws at q x (c.store.procedures here.owner name.name q here.is) fit (held_here None q.object (opened_in items) here.place tt))

  -- a sequence of statements begins
  sequence_sound : (body : StmtTrees) (all : HandlerTrees) (items : List Item) → IsHeld h.own.within (opened_in items) → AreFaultless s a body → AreFaultlessHandlers s a all → Behind h.program s outer a items
      → IsSoundStep h (opened_in items) (goes h (before body (Handles all ∷ items)))
  sequence_sound body all items held legal handlers b =
      let behind : Behind h.program s outer a (Handles all ∷ items) = (s, narrows_same h.program s, (handlers, b.0, b.1, b.2)) in
      went h s outer c a items (before body (Handles all ∷ items)) held (before_judged h.program s outer a body (Handles all ∷ items) legal behind) (opened_before body (Handles all ∷ items))

  item_sound : (i : Item) (items : List Item) → IsHeld h.own.within (opened_in (i ∷ items)) → IsReady h.program h.own s outer a (i ∷ items) → IsSoundStep h (opened_in (i ∷ items)) (item_step h i items)
  item_sound (Declares d) items held r = declares_sound h s outer laws c a items held d r.0 r.1 r.2
  item_sound (DeclaresParameter f) items held r = parameter_sound h s outer laws c a items held f r.1 r.0 r.2 r.3
  item_sound (Sequence body all) items held r = sequence_sound body all items held r.0 r.1 (r.2, r.3, r.4)
  item_sound (Does x) items held r =
      let at : At h s outer a items = record { current = c; held = held; behind = (r.1, r.2, r.3) } in
      statement_sound h s outer a items laws at x r.0 (λ name is. call_sound h s outer a items laws at name (subst (λ y. stmt_faults s a y ≡ []) is r.0.0))
  item_sound (DoesMain m) items held r = main_sound m items (record { current = c; held = held; behind = (s, narrows_same h.program s, r.1) }) r.0
  item_sound (Repeats body) items held r = forever_sound h s outer laws c a items held body r.2 r.0 (r.1, r.3, r.4)
  item_sound (RepeatsWhile e body) items held r = while_sound h s outer laws c a items held e body r.3 r.0 r.1 (r.2, r.4, r.5)
  item_sound (RepeatsFor parameter reversed now last body) items held r = next_sound h s outer laws c a items held parameter reversed now last body r
  item_sound (Handles all) items held r = went h s outer c a items items held (r.1, r.2, r.3) refl
  item_sound (EndsHandler x) items held r = went h s outer c (record a { in_handler = r.2 }) items items held (r.1, r.3, r.4) refl
  item_sound (EndsCall names opened xs) items held r = end_sound h s outer laws c a names opened xs items r
  item_sound (EndsAction o completion) items held r = action_sound h s outer laws c a o completion items r.0 r.1 r.2
  item_sound (EndsServed o names completion) items held r = served_end_sound h s outer laws c a o names completion items r
  item_sound (Queued q vs xs) items held r = absurd r

  work_sound : (w : Work) → IsHeld h.own.within (opened_in (items_of w)) → IsWork h.program h.own s outer a w → IsSoundStep h (opened_in (items_of w)) (work_step h w)
  work_sound (Goes []) held is = worked h s outer c a Finishes (Goes []) [] s (narrows_same h.program s) is (refl, refl, refl) held tt
  work_sound (Goes (i ∷ items)) held is = item_sound i items held is
  work_sound (Copies vs xs items) held is = copy_sound h s outer laws c a is.0 vs xs items held is.1 is.2 is.3
  work_sound (Raising x []) held is = worked h s outer c a (Dies x) (Goes []) [] is.1.0 is.1.1 is.1.2 (refl, refl, refl, is.0.0) held tt
  work_sound (Raising x (i ∷ items)) held is = raise_step_sound h s outer laws c a x i items held is.0 is.1

pub steps_are_sound : StepsAreSound
steps_are_sound program schedule k t s laws store task =
    work_sound (here_of program schedule k t s) task.scope task.outer laws (record { store = store; own = task.own; callers = task.callers; all = task.all }) task.around s.task.work task.held task.work
