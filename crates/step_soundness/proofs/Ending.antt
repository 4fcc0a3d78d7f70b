-- Ends of calls, of actions and of served bodies; results that are copied back; exceptions on their way (RM 6.4, 9.5.1, 9.5.3, 11.4).
use Rattle.std.proofs.Common.{◌≡◌, ℕ, List, [], ◌∷◌, map, inr, Option, Some, None, refl, sym, ap, ◌∙◌, subst}
use Rattle.expr_soundness.specs.kernel.specs.Effects.{Effect, Quiet, Ends}
use Rattle.expr_soundness.specs.ada_tree.specs.StatementTree.{StmtTrees}
use Rattle.expr_soundness.specs.types.specs.declared.entity.Subtype.{Subtype}
use Rattle.expr_soundness.specs.types.specs.Scopes.{Scope}
use Rattle.expr_soundness.specs.types.specs.Values.{Value}
use Rattle.expr_soundness.specs.types.specs.Evaluations.{Val, Gives, Raises, Meaningless}
use Rattle.expr_soundness.specs.types.specs.Evaluating.{passed}
use Rattle.stmt_rules.specs.declared.around.Around.{Around}
use Rattle.stmt_rules.specs.StatementRules.{in_handler}
use Rattle.expr_soundness.specs.meaning.specs.Programs.{Program}
use Rattle.expr_soundness.specs.meaning.specs.Works.{Item, Declares, DeclaresParameter, Sequence, Does, DoesMain, Repeats, RepeatsWhile, RepeatsFor, Handles, EndsHandler, EndsCall, EndsAction, EndsServed, Queued, Completion, Completed, Pending, Target, Work, Goes, Raising, Activation, GivenToCaller, Results, Raised}
use Rattle.expr_soundness.specs.meaning.specs.Targets.{activation_with}
use Rattle.expr_soundness.specs.meaning.specs.Calls.{is_open, results_in, with_value_of}
use Rattle.expr_soundness.specs.meaning.specs.SourceSteps.{Here, before, call_ended, call_raised, completed, completion_of, copy_step, copying, handled, handler_for, items_of, leaves, place_of, raise_step, raises, stores, with_value, works}
use Rattle.step_soundness.specs.Objects.{AreOf, AreTargets, GivesOrRaises, IsException, IsOf}
use Rattle.step_soundness.specs.Fitting.{Narrows, result_types}
use Rattle.step_soundness.specs.Opened.{ForCall, ForCaller, IsHeld, Opened, opened_by, opened_in}
use Rattle.step_soundness.specs.Judged.{AreResults, IsCompletion, IsWork, IsWorkOf, Judged, Leaves, Waiting}
use Rattle.step_soundness.specs.Holding.{Accounts, IsGiven, IsSoundServer, IsSoundStep, WhenEnds, waiting_activation, waits_after}
use Rattle.step_soundness.specs.Laws.{Premises}
use Rattle.step_soundness.proofs.Sights.{narrows_same, narrows_then}
use Rattle.step_soundness.proofs.Going.{Behind, Current, before_judged, leaves_of, opened_before, raised, raised_predefined, ready_of, same_store, went, worked}
use Rattle.step_soundness.proofs.Valued.{passed_comes}
use Rattle.step_soundness.proofs.Walking.{IsLegalHandler, handler_found}
use Rattle.step_soundness.proofs.Storing.{after_stored, object_sound, object_there, stores_sound, targets_moved}

held_more : (within : Option ℕ) (x : Opened) (opened : List Opened) → IsHeld within opened → IsHeld within (x ∷ opened)
held_more None x opened h = tt
held_more (Some o) x opened h = inr h

-- ---- results that are copied back

pub opened_copying : (vs : List Value) (xs : List Target) (items : List Item) → opened_in (items_of (copying vs xs items)) ≡ opened_in items
opened_copying [] xs items = refl
opened_copying (v ∷ vs) [] items = refl
opened_copying (v ∷ vs) (x ∷ xs) items = refl

opened_completed : (completion : Completion) (items : List Item) → opened_in (items_of (completed completion items)) ≡ opened_in items
opened_completed (Completed vs xs) items = opened_copying vs xs items
opened_completed (Pending x) items = refl

pub copying_work : (program : Program) (own : Activation) (s : Scope) (outer : List Waiting) (a : Around) (types : List ℕ) (vs : List Value) (xs : List Target) (items : List Item)
    → AreOf program.scope types vs → AreTargets program own types xs → Judged program s outer a items → IsWork program own s outer a (copying vs xs items)
copying_work program own s outer a [] [] [] items of targets j = ready_of program own s outer a items j
copying_work program own s outer a (n ∷ types) (v ∷ vs) (x ∷ xs) items of targets j = (n ∷ types, of, targets, j)
copying_work program own s outer a [] [] (x ∷ xs) items of targets j = absurd targets
copying_work program own s outer a [] (v ∷ vs) xs items of targets j = absurd of
copying_work program own s outer a (n ∷ types) [] xs items of targets j = absurd of
copying_work program own s outer a (n ∷ types) (v ∷ vs) [] items of targets j = absurd targets

-- what the task has still to do behind the end of an action
copying_completes : (program : Program) (own : Activation) (types : List ℕ) (vs : List Value) (xs : List Target) (items : List Item) → AreOf program.scope types vs → AreTargets program own types xs
    → IsCompletion program own (completion_of (copying vs xs items))
copying_completes program own [] [] [] items of targets = ([], tt, tt)
copying_completes program own (n ∷ types) (v ∷ vs) (x ∷ xs) items of targets = (n ∷ types, of, targets)
copying_completes program own [] [] (x ∷ xs) items of targets = absurd targets
copying_completes program own [] (v ∷ vs) xs items of targets = absurd of
copying_completes program own (n ∷ types) [] xs items of targets = absurd of
copying_completes program own (n ∷ types) (v ∷ vs) [] items of targets = absurd targets

completes : (program : Program) (own : Activation) (completion : Completion) (items : List Item) → IsCompletion program own completion → IsCompletion program own (completion_of (completed completion items))
completes program own (Completed vs xs) items is = copying_completes program own is.0 vs xs items is.1 is.2
completes program own (Pending x) items is = is

copying_items : (vs : List Value) (xs : List Target) (items : List Item) → items_of (copying vs xs items) ≡ items
copying_items [] xs items = refl
copying_items (v ∷ vs) [] items = refl
copying_items (v ∷ vs) (x ∷ xs) items = refl

completed_items : (completion : Completion) (items : List Item) → items_of (completed completion items) ≡ items
completed_items (Completed vs xs) items = copying_items vs xs items
completed_items (Pending x) items = refl

completed_work : (program : Program) (own : Activation) (s : Scope) (outer : List Waiting) (a : Around) (completion : Completion) (items : List Item) → IsCompletion program own completion
    → Judged program s outer a items → IsWork program own s outer a (completed completion items)
completed_work program own s outer a (Completed vs xs) items is j = copying_work program own s outer a is.0 vs xs items is.1 is.2 j
completed_work program own s outer a (Pending x) items is j = (is, leaves_of program s outer a items (s, narrows_same program s, j))

module _ (h : Here) (s : Scope) (outer : List Waiting) (laws : Premises h.program) (c : Current h s outer) where
  -- the parameters that are copied back have values of their types
  results_suited : (t : Scope) (types : List ℕ) (names : List (List ℕ)) → Narrows h.program s t → AreResults t types names → AreOf h.program.scope types (results_in h.own.locals names)
  results_suited t [] [] narrows are = tt
  results_suited t (n ∷ types) (name ∷ names) narrows are =
      let one = are.0 in
      let there = (narrows _ (c.own.fits (place_of h []))).results name one.0 one.1 one.2 one.3 in
      let x = object_there h.own.locals name one.1 there in
      let suited = object_sound h.program.scope h.own.locals name x.0 c.own.locals x.1 in
      let same : x.0.subtype.type_number ≡ n = ap (λ (u : Subtype). u.type_number) x.2 ∙ one.4 in
      subst (λ o. AreOf h.program.scope (n ∷ types) (with_value_of o (results_in h.own.locals names))) (sym x.1)
      (subst (λ k. IsOf h.program.scope k x.0.value) same suited, results_suited t types names narrows are.1)
  results_suited t [] (name ∷ names) narrows are = absurd are
  results_suited t (n ∷ types) [] narrows are = absurd are

  pub copy_sound : (a : Around) (types : List ℕ) (vs : List Value) (xs : List Target) (items : List Item) → IsHeld h.own.within (opened_in items) → AreOf h.program.scope types vs
      → AreTargets h.program h.own types xs → Judged h.program s outer a items → IsSoundStep h (opened_in items) (copy_step h vs xs items)
  copy_sound a [] [] [] items held of targets j = went h s outer c a items items held (s, narrows_same h.program s, j) refl
  copy_sound a (n ∷ types) (v ∷ vs) (x ∷ xs) items held of targets j =
      by_value (passed x.subtype v) (passed_comes (IsOf h.program.scope x.subtype.type_number) x.subtype v (subst (λ k. IsOf h.program.scope k v) (sym targets.0) of.0))
    where
      by_value : (r : Val Value) → GivesOrRaises (IsOf h.program.scope x.subtype.type_number) r → IsSoundStep h (opened_in items) (with_value h r items (λ w. stores h x w (copying vs xs items)))
      by_value (Gives w) suited =
          let after = after_stored h s outer laws c x w targets.1 suited in
          let own = activation_with x w h.own in
          stores_sound h s outer laws c a items x w (copying vs xs items) s held (narrows_same h.program s) targets.1 suited
          (copying_work h.program own s outer a types vs xs items of.1 (targets_moved h.program h.own own after.within after.locals types xs targets.2) j)
          (opened_copying vs xs items)
      by_value (Raises y) known = raised_predefined h s outer c a items y held known (leaves_of h.program s outer a items (s, narrows_same h.program s, j))
      by_value Meaningless never = absurd never
  copy_sound a [] [] (x ∷ xs) items held of targets j = absurd targets
  copy_sound a [] (v ∷ vs) xs items held of targets j = absurd of
  copy_sound a (n ∷ types) [] xs items held of targets j = absurd of
  copy_sound a (n ∷ types) (v ∷ vs) [] items held of targets j = absurd targets

-- ---- ends

left_sound : (h : Here) (s : Scope) (w : Waiting) (outer : List Waiting) (c : Current h s (w ∷ outer)) (a : Around) (e : Effect) (opened : List Opened) (work : Work) (given : Option GivenToCaller)
    → waits_after e ≡ None → IsWork h.program w.activation w.scope outer a work → IsHeld w.activation.within (opened_in (items_of work)) → Accounts h e h.memory opened (opened_in (items_of work)) given
    → WhenEnds e (IsSoundServer h.program h.memory (record { work = work; own = w.activation; callers = map waiting_activation outer })) → IsSoundStep h opened (leaves h e h.callers work given)
left_sound h s w outer c a e opened work given running is held accounts server =
    subst (λ cs. IsSoundStep h opened (leaves h e cs work given)) (sym c.callers)
    record {
      effect = accounts;
      store = same_store h.program h.own.within h.memory c.store;
      task = record {
        scope = w.scope;
        outer = outer;
        around = a;
        work = subst (λ o. IsWorkOf h.program o w.activation w.scope outer a work) (sym running) is;
        own = c.all.0;
        callers = refl;
        all = c.all.1;
        held = held;
      };
      server = server;
    }

-- the end of a call, or an exception there: the action that the call opened ends first
module _ (h : Here) (s : Scope) (w : Waiting) (outer : List Waiting) (c : Current h s (w ∷ outer)) where
  call_ended_sound : (a : Around) (opened : Option ℕ) (types : List ℕ) (vs : List Value) (xs : List Target) (items : List Item) → AreOf h.program.scope types vs
      → AreTargets h.program w.activation types xs → IsHeld w.activation.within (opened_in items) → Judged h.program w.scope outer a items
      → IsSoundStep h (opened_by opened (opened_in items)) (leaves h Quiet h.callers (call_ended opened vs xs items) None)
  call_ended_sound a None types vs xs items of targets held j =
      left_sound h s w outer c a Quiet (opened_in items) (copying vs xs items) None refl (copying_work h.program w.activation w.scope outer a types vs xs items of targets j)
      (subst (IsHeld w.activation.within) (sym (opened_copying vs xs items)) held) (opened_copying vs xs items, refl) tt
  call_ended_sound a (Some o) types vs xs items of targets held j =
      left_sound h s w outer c a Quiet (ForCall o ∷ opened_in items) (Goes (EndsAction o (Completed vs xs) ∷ items)) None refl ((types, of, targets), held, j)
      (held_more w.activation.within (ForCall o) (opened_in items) held) (refl, refl) tt

  call_raised_sound : (a : Around) (x : ℕ) (opened : Option ℕ) (items : List Item) → IsException h.program x → IsHeld w.activation.within (opened_in items) → Judged h.program w.scope outer a items
      → IsSoundStep h (opened_by opened (opened_in items)) (leaves h Quiet h.callers (call_raised x opened items) None)
  call_raised_sound a x None items known held j =
      left_sound h s w outer c a Quiet (opened_in items) (Raising x items) None refl (known, leaves_of h.program w.scope outer a items (w.scope, narrows_same h.program w.scope, j)) held (refl, refl) tt
  call_raised_sound a x (Some o) items known held j =
      left_sound h s w outer c a Quiet (ForCall o ∷ opened_in items) (Goes (EndsAction o (Pending x) ∷ items)) None refl (known, held, j)
      (held_more w.activation.within (ForCall o) (opened_in items) held) (refl, refl) tt

  -- the end of a served body, which gives its caller results or an exception
  served_sound : (a : Around) (o : ℕ) (completion : Completion) (g : GivenToCaller) (items : List Item) → IsCompletion h.program w.activation completion → IsHeld w.activation.within (opened_in items)
      → Judged h.program w.scope outer a items → IsGiven h.program o g
      → IsSoundStep h (ForCaller o ∷ opened_in items) (leaves h (Ends (is_open h.program h.memory o)) h.callers (completed completion items) (Some g))
  served_sound a o completion g items is held j given =
      left_sound h s w outer c a (Ends (is_open h.program h.memory o)) (ForCaller o ∷ opened_in items) (completed completion items) (Some g) refl
      (completed_work h.program w.activation w.scope outer a completion items is j)
      (subst (IsHeld w.activation.within) (sym (opened_completed completion items)) held)
      (ForCaller o, ap (λ l. ForCaller o ∷ l) (sym (opened_completed completion items)), refl, (g, refl, given))
      record {
        scope = w.scope;
        outer = outer;
        around = a;
        completion = completes h.program w.activation completion items is;
        items = subst (Judged h.program w.scope outer a) (sym (completed_items completion items)) j;
        own = c.all.0;
        callers = refl;
        all = c.all.1;
        held = subst (IsHeld w.activation.within) (sym (opened_completed completion items)) held;
      }

module _ (h : Here) (s : Scope) (outer : List Waiting) (laws : Premises h.program) (c : Current h s outer) where
  -- the end of an action
  pub action_sound : (a : Around) (o : ℕ) (completion : Completion) (items : List Item) → IsCompletion h.program h.own completion → IsHeld h.own.within (opened_in items)
      → Judged h.program s outer a items → IsSoundStep h (ForCall o ∷ opened_in items) (works h (Ends (is_open h.program h.memory o)) (completed completion items))
  action_sound a o completion items is held j =
      worked h s outer c a (Ends (is_open h.program h.memory o)) (completed completion items) (ForCall o ∷ opened_in items) s (narrows_same h.program s)
      (completed_work h.program h.own s outer a completion items is j)
      (ForCall o, ap (λ l. ForCall o ∷ l) (sym (opened_completed completion items)), refl, refl)
      (subst (IsHeld h.own.within) (sym (opened_completed completion items)) held)
      record {
        scope = s;
        outer = outer;
        around = a;
        completion = completes h.program h.own completion items is;
        items = subst (Judged h.program s outer a) (sym (completed_items completion items)) j;
        own = c.own;
        callers = c.callers;
        all = c.all;
        held = subst (IsHeld h.own.within) (sym (opened_completed completion items)) held;
      }

-- the end of a body that is left by its end
pub end_sound : (h : Here) (s : Scope) (outer : List Waiting) (laws : Premises h.program) (c : Current h s outer) (a : Around) (names : List (List ℕ)) (opened : Option ℕ) (xs : List Target)
    (items : List Item) → Judged h.program s outer a (EndsCall names opened xs ∷ items)
    → IsSoundStep h (opened_by opened (opened_in items)) (leaves h Quiet h.callers (call_ended opened (results_in h.own.locals names) xs items) None)
end_sound h s [] laws c a names opened xs items j = absurd j
end_sound h s (w ∷ outer) laws c a names opened xs items j =
    call_ended_sound h s w outer c j.5 opened j.1 (results_in h.own.locals names) xs items (results_suited h s (w ∷ outer) laws c s j.1 names (narrows_same h.program s) j.2) j.3 j.4 j.6

pub served_end_sound : (h : Here) (s : Scope) (outer : List Waiting) (laws : Premises h.program) (c : Current h s outer) (a : Around) (o : ℕ) (names : List (List ℕ)) (completion : Completion)
    (items : List Item) → Judged h.program s outer a (EndsServed o names completion ∷ items)
    → IsSoundStep h (ForCaller o ∷ opened_in items)
    (leaves h (Ends (is_open h.program h.memory o)) h.callers (completed completion items) (Some (Results (results_in h.own.locals names))))
served_end_sound h s [] laws c a o names completion items j = absurd j
served_end_sound h s (w ∷ outer) laws c a o names completion items j =
    served_sound h s w outer c j.6 o completion (Results (results_in h.own.locals names)) items j.4 j.5 j.7
    (j.1, j.2, results_suited h s (w ∷ outer) laws c s (result_types j.1.parameters) names (narrows_same h.program s) j.3)

-- ---- an exception on its way

fewer : (h : Here) (s t : Scope) (outer : List Waiting) → Narrows h.program s t → Current h s outer → Current h t outer
fewer h s t outer narrows c =
    record { store = c.store; own = record { fits = λ p. narrows _ (c.own.fits p); locals = c.own.locals }; callers = c.callers; all = c.all }

raised_at_call : (h : Here) (s : Scope) (outer : List Waiting) (c : Current h s outer) (a : Around) (x : ℕ) (names : List (List ℕ)) (opened : Option ℕ) (xs : List Target) (items : List Item)
    → IsException h.program x → Judged h.program s outer a (EndsCall names opened xs ∷ items)
    → IsSoundStep h (opened_by opened (opened_in items)) (leaves h Quiet h.callers (call_raised x opened items) None)
raised_at_call h s [] c a x names opened xs items known j = absurd j
raised_at_call h s (w ∷ outer) c a x names opened xs items known j = call_raised_sound h s w outer c j.5 x opened items known j.4 j.6

raised_at_served : (h : Here) (s : Scope) (outer : List Waiting) (c : Current h s outer) (a : Around) (x o : ℕ) (names : List (List ℕ)) (completion : Completion) (items : List Item)
    → IsException h.program x → Judged h.program s outer a (EndsServed o names completion ∷ items)
    → IsSoundStep h (ForCaller o ∷ opened_in items) (leaves h (Ends (is_open h.program h.memory o)) h.callers (completed completion items) (Some (Raised x)))
raised_at_served h s [] c a x o names completion items known j = absurd j
raised_at_served h s (w ∷ outer) c a x o names completion items known j = served_sound h s w outer c j.6 o completion (Raised x) items j.4 j.5 j.7 known

module _ (h : Here) (s : Scope) (outer : List Waiting) (laws : Premises h.program) (c : Current h s outer) where
  -- a handler, or none for this exception
  handled_sound : (a : Around) (x : ℕ) (o : Option StmtTrees) (items : List Item) → IsHeld h.own.within (opened_in items) → IsException h.program x → IsLegalHandler h.program s a o → Behind h.program s outer a items
      → IsSoundStep h (opened_in items) (handled h x o items)
  handled_sound a x (Some body) items held known legal b =
      let behind : Behind h.program s outer (in_handler a) (EndsHandler x ∷ items) = (s, narrows_same h.program s, (known, b.0, a.in_handler, b.1, b.2)) in
      went h s outer c (in_handler a) items (before body (EndsHandler x ∷ items)) held (before_judged h.program s outer (in_handler a) body (EndsHandler x ∷ items) legal behind)
      (opened_before body (EndsHandler x ∷ items))
  handled_sound a x None items held known legal b = raised h s outer c a items x held known (leaves_of h.program s outer a items b)

-- the same where fewer names are visible
handled_at : (h : Here) (t : Scope) (outer : List Waiting) (c : Current h t outer) (laws : Premises h.program) (a : Around) (x : ℕ) (o : Option StmtTrees) (items : List Item)
    → IsHeld h.own.within (opened_in items) → IsException h.program x → IsLegalHandler h.program t a o → Behind h.program t outer a items → IsSoundStep h (opened_in items) (handled h x o items)
handled_at h t outer c laws a x o items held known legal b = handled_sound h t outer laws c a x o items held known legal b

module _ (h : Here) (s : Scope) (outer : List Waiting) (laws : Premises h.program) (c : Current h s outer) where
  -- an item that is left as it is
  dropped : (t : Scope) (a b : Around) (x : ℕ) (items : List Item) → IsHeld h.own.within (opened_in items) → IsException h.program x → Narrows h.program s t → Behind h.program t outer b items
      → IsSoundStep h (opened_in items) (raises h x items)
  dropped t a b x items held known narrows rest =
      raised h s outer c b items x held known (leaves_of h.program s outer b items (rest.0, narrows_then h.program s t rest.0 narrows rest.1, rest.2))

  pub raise_step_sound : (a : Around) (x : ℕ) (i : Item) (items : List Item) → IsHeld h.own.within (opened_in (i ∷ items)) → IsException h.program x → Leaves h.program s outer a (i ∷ items)
      → IsSoundStep h (opened_in (i ∷ items)) (raise_step h x i items)
  raise_step_sound a x (Declares d) items held known l = raised h s outer c a items x held known l
  raise_step_sound a x (DeclaresParameter f) items held known l = raised h s outer c a items x held known l
  raise_step_sound a x (Sequence body all) items held known l = raised h s outer c a items x held known l
  raise_step_sound a x (Does st) items held known l = dropped l.0 a a x items held known l.1 (l.2.1, l.2.2, l.2.3)
  raise_step_sound a x (DoesMain m) items held known l = dropped l.0 a a x items held known l.1 (l.0, narrows_same h.program l.0, l.2.1)
  raise_step_sound a x (Repeats body) items held known l = dropped l.0 a (record a { in_loop = l.2.2 }) x items held known l.1 (l.2.1, l.2.3, l.2.4)
  raise_step_sound a x (RepeatsWhile e body) items held known l = dropped l.0 a (record a { in_loop = l.2.3 }) x items held known l.1 (l.2.2, l.2.4, l.2.5)
  raise_step_sound a x (RepeatsFor parameter reversed now last body) items held known l =
      dropped l.0 a (record a { in_loop = l.2.7 }) x items held known l.1 (l.2.6, narrows_then h.program l.0 l.2.0 l.2.6 l.2.2 l.2.8, l.2.9)
  raise_step_sound a x (Handles all) items held known l =
      handled_at h l.0 outer (fewer h s l.0 outer l.1 c) laws a x (handler_for h.program x all) items held known (handler_found h.program l.0 a x all l.2.0.0 l.2.0.1) (l.2.1, l.2.2, l.2.3)
  raise_step_sound a x (EndsHandler y) items held known l = dropped l.0 a (record a { in_handler = l.2.2 }) x items held known l.1 (l.2.1, l.2.3, l.2.4)
  raise_step_sound a x (EndsCall names opened xs) items held known l = raised_at_call h l.0 outer (fewer h s l.0 outer l.1 c) a x names opened xs items known l.2
  raise_step_sound a x (EndsServed o names completion) items held known l = raised_at_served h l.0 outer (fewer h s l.0 outer l.1 c) a x o names completion items known l.2
  raise_step_sound a x (EndsAction o completion) items held known l = absurd l.2
  raise_step_sound a x (Queued q vs xs) items held known l = absurd l.2
