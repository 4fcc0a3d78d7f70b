-- Wrong meanings of statements, calls and ends, each refuted by a program whose run it would change.
use Rattle.std.proofs.Common.{◌≡◌, ℕ, true, false, subst, rules, List, [], ◌∷◌, ◌++◌, map, Option, Some, None, refl, sym, ap, ◌∙◌}
use Rattle.std.specs.Prelude.{codes, nat_eq, slice_get, if◌then◌else◌}
use Rattle.std.specs.Fmt.{digits}
use Rattle.base.specs.declared.schedule.ScheduleLine.{ScheduleLine}
use Rattle.base.specs.declared.exceptions.PredefinedException.TheVariants.{ProgramError}
use Rattle.kernel.specs.Effects.{Quiet, Ends, is_inside_any}
use Rattle.kernel.specs.Worlds.{Behaviour, among, run}
use Rattle.kernel.specs.Text.{text}
use Rattle.ada_tree.specs.ExpressionTree.{ExprTree}
use Rattle.ada_tree.specs.StatementTree.{Block, Call, Exit, Return}
use Rattle.types.specs.Values.{Value}
use Rattle.meaning.specs.Programs.{Program, program_names, program_of}
use Rattle.meaning.specs.Works.{Item, Declares, Does, Repeats, RepeatsWhile, RepeatsFor, Handles, EndsCall, EndsServed, Queued, Target, Work, Goes, Raising, Activation, TaskWork, Store, GivenToCaller, Results}
use Rattle.meaning.specs.Targets.{activation_with, store_with}
use Rattle.meaning.specs.Calls.{Callee, activation_of, body_items, callee_by, is_open, results, results_in}
use Rattle.meaning.specs.SourceSteps.{Here, SourceStepped, here_of, before, completion_of, condition, goes, items_of, raises_predefined, leaves, with_actuals_of, with_value, entry_call, work_step, program_behaviour}
use Rattle.meaning.specs.Source.{start_of, text_of}
use Rattle.meaning.proofs.Sequential.{handler_does_not_cover_declarations_tree, handler_does_not_cover_declarations, nothing_is_copied_back_after_a_raise_tree, nothing_is_copied_back_after_a_raise}
use Rattle.meaning.proofs.Protection.{exception_of_an_entry_body_tree, exception_of_an_entry_body, return_out_of_an_entry_body_tree, return_out_of_an_entry_body}
use Rattle.meaning.proofs.CallPoints.{a_while_loop_tree, a_while_loop, results_are_copied_back_when_the_caller_runs_tree, results_are_copied_back_when_the_caller_runs}
use Rattle.meaning.proofs.TaskPoints.{nothing_of_an_entry_call_in_an_action_is_evaluated_tree, nothing_of_an_entry_call_in_an_action_is_evaluated}

-- ---- a meaning that differs in some steps

abbrev Change : Type 0
Change = Here → Work → Option SourceStepped

abbrev step_or : Option SourceStepped → SourceStepped → SourceStepped
step_or (Some x) y = x
step_or None y = y

abbrev changed_behaviour : Change → Program → List ScheduleLine → Behaviour Store TaskWork GivenToCaller
changed_behaviour change p schedule =
    record (program_behaviour p schedule) { act = λ k t s. step_or (change (here_of p schedule k t s) s.task.work) (work_step (here_of p schedule k t s) s.task.work) }

abbrev changed_text : Change → Program → ℕ → List ℕ
changed_text change p n = text (program_names p) (run (among (changed_behaviour change p [])) n (start_of p [])).kernel

-- two bytes that differ

same_number : (n : ℕ) → nat_eq n n ≡ true
same_number n = search rules

abbrev byte_of : Option ℕ → ℕ
byte_of (Some n) = n
byte_of None = 0

apart : (m n : ℕ) → nat_eq m n ≡ false → Some m ≡ Some n → ⊥
apart m n h e = let f : false ≡ true = sym h ∙ subst (λ k. nat_eq m k ≡ true) (ap byte_of e) (same_number m) in cc

-- ---- handlers that cover the declarations in front of their sequence

abbrev covering : Change
covering h (Goes (Does (Block place ds body hs) ∷ items)) = Some (goes h (map Declares ds ++ before body (Handles hs ∷ items)))
covering h w = None

covering_text : changed_text covering (program_of handler_does_not_cover_declarations_tree) 40 ≡ codes "0 MAIN own 2\nended at 0\n"
unfolding digits
covering_text = refl

covering_refuted : changed_text covering (program_of handler_does_not_cover_declarations_tree) 40 ≡ text_of (program_of handler_does_not_cover_declarations_tree) [] 40 → ⊥
covering_refuted e = apart 119 117 refl (ap (λ l. slice_get l 8) (sym covering_text ∙ e ∙ handler_does_not_cover_declarations))

-- ---- results copied back although the body has raised

abbrev stored_all : List Value → List Target → Store → Store
stored_all (v ∷ vs) (x ∷ xs) m = stored_all vs xs (store_with x v m)
stored_all vs xs m = m

abbrev stored_own : List Value → List Target → Activation → Activation
stored_own (v ∷ vs) (x ∷ xs) a = stored_own vs xs (activation_with x v a)
stored_own vs xs a = a

abbrev kept_by : Here → ℕ → List Value → List Target → List Item → List Activation → Option SourceStepped
kept_by h x vs xs items [] = None
kept_by h x vs xs items (c ∷ cs) =
    Some (record { effect = Quiet; solo = record { memory = stored_all vs xs h.memory; task = record { work = Raising x items; own = stored_own vs xs c; callers = cs } }; given = None })

abbrev keeping : Change
keeping h (Raising x (EndsCall names None xs ∷ items)) = kept_by h x (results_in h.own.locals names) xs items h.callers
keeping h w = None

keeping_text : changed_text keeping (program_of nothing_is_copied_back_after_a_raise_tree) 40 ≡ codes "0 MAIN v 9\nended at 0\n"
unfolding digits
keeping_text = refl

keeping_refuted : changed_text keeping (program_of nothing_is_copied_back_after_a_raise_tree) 40 ≡ text_of (program_of nothing_is_copied_back_after_a_raise_tree) [] 40 → ⊥
keeping_refuted e = apart 57 49 refl (ap (λ l. slice_get l 9) (sym keeping_text ∙ e ∙ nothing_is_copied_back_after_a_raise))

-- ---- results of a queued caller copied back by the server, before the caller runs again

abbrev early_serves : ℕ → Work → TaskWork → TaskWork
early_serves o (Goes (Queued q vs xs ∷ items)) t =
    record {
      work = Goes (body_items q (EndsCall (results q.parameters) None xs) (EndsServed o [] (completion_of t.work) ∷ items_of t.work));
      own = activation_of q vs;
      callers = t.own ∷ t.own ∷ t.callers;
    }
early_serves o w t = t

abbrev early_text : Program → ℕ → List ℕ
early_text p n = text (program_names p) (run (among (record (program_behaviour p []) { serving = λ o caller u t. early_serves o u.work t })) n (start_of p [])).kernel

early : early_text (program_of results_are_copied_back_when_the_caller_runs_tree) 80 ≡ codes "0 B b 7\n0 A x 7\nended at 0\n"
unfolding digits
early = refl

early_refuted : early_text (program_of results_are_copied_back_when_the_caller_runs_tree) 80 ≡ text_of (program_of results_are_copied_back_when_the_caller_runs_tree) [] 80 → ⊥
early_refuted e = apart 55 49 refl (ap (λ l. slice_get l 6) (sym early ∙ e ∙ results_are_copied_back_when_the_caller_runs))

-- ---- an entry body's exception raised in the task that serves

abbrev in_server : Change
in_server h (Raising x (EndsServed o names completion ∷ items)) = Some (leaves h (Ends (is_open h.program h.memory o)) h.callers (Raising x items) (Some (Results [])))
in_server h w = None

in_server_text : changed_text in_server (program_of exception_of_an_entry_body_tree) 80 ≡ codes "unhandled BAD in D at 0\n"
unfolding digits
in_server_text = refl

in_server_refuted : changed_text in_server (program_of exception_of_an_entry_body_tree) 80 ≡ text_of (program_of exception_of_an_entry_body_tree) [] 80 → ⊥
in_server_refuted e = apart 117 48 refl (ap (λ l. slice_get l 0) (sym in_server_text ∙ e ∙ exception_of_an_entry_body))

-- ---- an entry call inside an action that evaluates its actual parameters first

abbrev evaluated_by : Here → List Item → Callee → Option ℕ → Option SourceStepped
evaluated_by h items c None = None
evaluated_by h items c (Some o) =
    Some (with_actuals_of h c items (λ a. if is_inside_any h.kernel h.task then raises_predefined h ProgramError items else entry_call h o c.procedure a items))

abbrev evaluated_for : Here → List Item → Callee → Option ExprTree → Option SourceStepped
evaluated_for h items c None = None
evaluated_for h items c (Some barrier) = evaluated_by h items c c.procedure.object

abbrev evaluated : Here → List Item → Option Callee → Option SourceStepped
evaluated h items None = None
evaluated h items (Some c) = evaluated_for h items c c.procedure.barrier

abbrev evaluating : Change
evaluating h (Goes (Does (Call name) ∷ items)) = evaluated h items (callee_by h.program h.own.within name.first name.selectors)
evaluating h w = None

evaluating_text : changed_text evaluating (program_of nothing_of_an_entry_call_in_an_action_is_evaluated_tree) 60 ≡ codes "unhandled CONSTRAINT_ERROR in T at 0\n"
unfolding digits
evaluating_text = refl

evaluating_refuted : changed_text evaluating (program_of nothing_of_an_entry_call_in_an_action_is_evaluated_tree) 60 ≡ text_of (program_of nothing_of_an_entry_call_in_an_action_is_evaluated_tree) [] 60 → ⊥
evaluating_refuted e = apart 117 48 refl (ap (λ l. slice_get l 0) (sym evaluating_text ∙ e ∙ nothing_of_an_entry_call_in_an_action_is_evaluated))

-- ---- an `exit` that leaves the item of its loop

abbrev from_loop : List Item → List Item
from_loop [] = []
from_loop (Repeats body ∷ items) = Repeats body ∷ items
from_loop (RepeatsWhile e body ∷ items) = RepeatsWhile e body ∷ items
from_loop (RepeatsFor parameter reversed now last body ∷ items) = RepeatsFor parameter reversed now last body ∷ items
from_loop (i ∷ items) = from_loop items

abbrev staying : Change
staying h (Goes (Does (Exit place (Some e)) ∷ items)) = Some (with_value h (condition h items e) items (λ holds. goes h (if holds then from_loop items else items)))
staying h w = None

staying_text : changed_text staying (program_of a_while_loop_tree) 60 ≡ codes "0 MAIN n 1\n0 MAIN n 2\nstep limit at 0\n"
unfolding digits
staying_text = refl

staying_refuted : changed_text staying (program_of a_while_loop_tree) 60 ≡ text_of (program_of a_while_loop_tree) [] 60 → ⊥
staying_refuted e = apart 115 48 refl (ap (λ l. slice_get l 22) (sym staying_text ∙ e ∙ a_while_loop))

-- ---- a `return` out of a served body that leaves the action without its end

abbrev behind_body : List Item → List Item
behind_body [] = []
behind_body (EndsCall names opened xs ∷ items) = EndsCall names opened xs ∷ items
behind_body (EndsServed o names completion ∷ items) = items
behind_body (i ∷ items) = behind_body items

abbrev deserting : Change
deserting h (Goes (Does (Return place None) ∷ items)) = Some (goes h (behind_body items))
deserting h w = None

deserting_text : changed_text deserting (program_of return_out_of_an_entry_body_tree) 80 ≡ codes "0 D on 2\nended at 0\n"
unfolding digits
deserting_text = refl

deserting_refuted : changed_text deserting (program_of return_out_of_an_entry_body_tree) 80 ≡ text_of (program_of return_out_of_an_entry_body_tree) [] 80 → ⊥
deserting_refuted e = apart 68 67 refl (ap (λ l. slice_get l 2) (sym deserting_text ∙ e ∙ return_out_of_an_entry_body))
