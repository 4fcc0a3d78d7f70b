-- Calls: bodies that begin, refusals, calls that wait, and lines of output (RM 6.4, 9.5.1, 9.5.3).
use Rattle.std.proofs.Common.{◌≡◌, ◌⊎◌, inl, inr, ℕ, zero, suc, List, [], ◌∷◌, ◌++◌, drop, map, Bool, true, false, ◌&&◌, Option, Some, None, cond, refl, sym, ap, ◌∙◌, subst}
use Rattle.std.specs.Prelude.{bytes_eq}
use Rattle.expr_soundness.specs.base.specs.declared.exceptions.PredefinedException.TheVariants.{ProgramError, StorageError}
use Rattle.expr_soundness.specs.kernel.specs.State.{Action, is_object_open}
use Rattle.expr_soundness.specs.kernel.specs.Effects.{Effect, Quiet, Opens, Queues, Refusal, AboveCeiling, SameObject, call_refusal, is_above_ceiling, is_full, is_inside_any}
use Rattle.expr_soundness.specs.ada_tree.specs.StatementTree.{DeclarationTree}
use Rattle.expr_soundness.specs.types.specs.declared.entity.Subtype.{Subtype}
use Rattle.expr_soundness.specs.types.specs.Scopes.{Scope}
use Rattle.expr_soundness.specs.types.specs.Values.{Value}
use Rattle.expr_soundness.specs.types.specs.Places.{is_of, or_else}
use Rattle.expr_soundness.specs.expr_rules.proofs.TypedLaw.{same_number}
use Rattle.stmt_rules.specs.declared.around.Around.{Around}
use Rattle.expr_soundness.specs.meaning.specs.Programs.{Parameter, Procedure, Program}
use Rattle.expr_soundness.specs.meaning.specs.Works.{Item, Declares, DeclaresParameter, Sequence, EndsCall, Queued, Goes, TaskWork}
use Rattle.expr_soundness.specs.meaning.specs.Calls.{Actuals, activation_of, body_items, bound, declares_parameters, is_open, is_out, procedure_among, procedure_here, results, with_first}
use Rattle.expr_soundness.specs.meaning.specs.SourceSteps.{Here, SourceStepped, entry_call, external_call, frames_here, if_frame_left, plain_call, queue_call, raises_predefined, run_body, unless_refused}
use Rattle.step_soundness.specs.Objects.{AreOf, AreSoundObjects}
use Rattle.step_soundness.specs.Fitting.{entry_of, result_types, taken_types}
use Rattle.step_soundness.specs.Opened.{ForCall, IsHeld, Opened, opened_by, opened_in}
use Rattle.step_soundness.specs.Judged.{IsWorkOf, Waiting}
use Rattle.step_soundness.specs.Holding.{Accounts, IsSoundBody, IsSoundProcedure, IsSoundServer, IsSoundStep, WhenEnds, waits_after}
use Rattle.step_soundness.specs.Laws.{Premises}
use Rattle.step_soundness.proofs.Lookups.{same_some}
use Rattle.step_soundness.proofs.Going.{At, Current, at_chosen, at_refused, same_store, worked}
use Rattle.step_soundness.proofs.Turning.{begins_ready}
use Rattle.step_soundness.proofs.Passing.{ActualsFit}

-- ---- the items and objects of a body

opened_parameters : (fs : List Parameter) (items : List Item) → opened_in (declares_parameters fs items) ≡ opened_in items
opened_parameters [] items = refl
opened_parameters (f ∷ fs) items = by_mode (is_out f.mode) (opened_parameters fs items)
  where
    by_mode : (b : Bool) → opened_in (declares_parameters fs items) ≡ opened_in items
        → opened_in (cond b (DeclaresParameter f ∷ declares_parameters fs items) (declares_parameters fs items)) ≡ opened_in items
    by_mode true later = later
    by_mode false later = later

opened_declared : (ds : List DeclarationTree) (items : List Item) → opened_in (map Declares ds ++ items) ≡ opened_in items
opened_declared [] items = refl
opened_declared (d ∷ ds) items = opened_declared ds items

pub opened_body : (q : Procedure) (end : Item) (items : List Item) → opened_in (body_items q end items) ≡ opened_in (end ∷ items)
opened_body q end items =
    let statements = Sequence q.body.statements q.body.handlers ∷ end ∷ items in
    opened_parameters q.parameters (map Declares q.body.declarations ++ statements) ∙ opened_declared q.body.declarations statements

pub bound_sound : (s : Scope) (fs : List Parameter) (vs : List Value) → AreOf s (taken_types fs) vs → AreSoundObjects s (bound fs vs)
bound_sound s [] vs given = tt
bound_sound s (f ∷ fs) vs given = by_mode (is_out f.mode) given (λ ws of. bound_sound s fs ws of)
  where
    taken : (ws : List Value) → AreOf s (f.subtype.type_number ∷ taken_types fs) ws
        → ((us : List Value) → AreOf s (taken_types fs) us → AreSoundObjects s (bound fs us))
        → AreSoundObjects s (with_first f ws (bound fs (drop 1 ws)))
    taken [] of later = absurd of
    taken (w ∷ ws) of later = (of.0, later ws of.1)

    by_mode : (b : Bool) → AreOf s (cond b (taken_types fs) (f.subtype.type_number ∷ taken_types fs)) vs
        → ((us : List Value) → AreOf s (taken_types fs) us → AreSoundObjects s (bound fs us))
        → AreSoundObjects s (cond b (bound fs vs) (with_first f vs (bound fs (drop 1 vs))))
    by_mode true of later = later vs of
    by_mode false of later = taken vs of later

-- ---- whose procedure it is

same_owner : (a b : Option ℕ) → is_of a b ≡ true → a ≡ b
same_owner None None h = refl
same_owner (Some m) (Some n) h = ap Some (same_number m n h)
same_owner None (Some n) h = cc
same_owner (Some m) None h = cc

pub among_owner : (ps : List Procedure) (owner : Option ℕ) (name : List ℕ) (q : Procedure) → procedure_among ps owner name ≡ Some q → q.object ≡ owner
among_owner [] owner name q h = cc
among_owner (p ∷ ps) owner name q h = by_test (is_of p.object owner) (bytes_eq p.name name) refl h (λ k. among_owner ps owner name q k)
  where
    by_test : (b d : Bool) → is_of p.object owner ≡ b → cond (b && d) (Some p) (procedure_among ps owner name) ≡ Some q
        → (procedure_among ps owner name ≡ Some q → q.object ≡ owner)
        → q.object ≡ owner
    by_test true true is k later = subst (λ r. r.object ≡ owner) (same_some p q k) (same_owner p.object owner is)
    by_test true false is k later = later k
    by_test false d is k later = later k

-- of what is found here: in which object, or in the package, and by which look-up
pub record IsHere (program : Program) (within : Option ℕ) (name : List ℕ) (q : Procedure) : Type 0 where
  pub owner : Option ℕ
  pub is : procedure_among program.procedures owner name ≡ Some q
  pub place : (q.object ≡ within) ⊎ (q.object ≡ None)

pub found_here : (program : Program) (within : Option ℕ) (name : List ℕ) (q : Procedure) → procedure_here program within name ≡ Some q
    → IsHere program within name q
found_here program within name q h = by_first (procedure_among program.procedures within name) refl h
  where
    by_first : (o : Option Procedure) → procedure_among program.procedures within name ≡ o
        → or_else o (procedure_among program.procedures None name) ≡ Some q → IsHere program within name q
    by_first (Some p) is k = record { owner = within; is = is ∙ k; place = inl (among_owner program.procedures within name q (is ∙ k)) }
    by_first None is k = record { owner = None; is = k; place = inr (among_owner program.procedures None name q k) }

pub held_here : (within : Option ℕ) (o : Option ℕ) (opened : List Opened) → (o ≡ within) ⊎ (o ≡ None) → IsHeld within opened → IsHeld o opened
held_here within o opened (inl is) held = subst (λ w. IsHeld w opened) (sym is) held
held_here within o opened (inr is) held = subst (λ w. IsHeld w opened) (sym is) tt

-- outside of all actions nothing refuses an object's own
outside_all : (actions : List Action) (o : ℕ) → (elim actions [ [] ↦ false | a ∷ outer ↦ true ]) ≡ false → is_object_open o actions ≡ false
outside_all [] o h = refl
outside_all (a ∷ outer) o h = cc

module _ (Worth : Subtype → Value → Type 0) (h : Here) (s : Scope) (outer : List Waiting) (a : Around) (items : List Item) (laws : Premises h.program)
    (at : At h s outer a items) where
  c : Current h s outer
  c = at.current

  -- ---- a body begins

  enters_sound : (q : Procedure) (x : Actuals) (e : Effect) (opened : Option ℕ) → IsSoundProcedure h.program h.memory q
      → ActualsFit Worth h.program h.own q.parameters x → waits_after e ≡ None
      → IsHeld q.object (opened_by opened (opened_in items)) → Accounts h e h.memory (opened_in items) (opened_by opened (opened_in items)) None
      → ((t : TaskWork) → WhenEnds e (IsSoundServer h.program h.memory t)) → IsSoundStep h (opened_in items) (run_body h e opened q x items)
  enters_sound q x e opened sound fit running held accounts server =
      record {
        effect = subst (λ l. Accounts h e h.memory (opened_in items) l None) (sym same) accounts;
        store = same_store h.program h.own.within h.memory c.store;
        task = record {
          scope = body.scope;
          outer = w ∷ outer;
          around = body.around;
          work = subst (λ o. IsWorkOf h.program o (activation_of q x.values) body.scope (w ∷ outer) body.around (Goes (body_items q end items))) (sym running)
              (begins_ready h.program (activation_of q x.values) body.scope (w ∷ outer) body.around (body_items q end items)
              (body.items (w ∷ outer) end items (λ t b plain named. (plain, result_types q.parameters, named, fit.1, at.held, a, at.behind.2))));
          own = record { fits = body.fits; locals = bound_sound h.program.scope q.parameters x.values fit.0 };
          callers = ap (λ l. h.own ∷ l) c.callers;
          all = (record { fits = λ p. at.behind.1 _ (c.own.fits p); locals = c.own.locals }, c.all);
          held = subst (IsHeld q.object) (sym same) held;
        };
        server = server _;
      }
    where
      body : IsSoundBody h.program h.memory q x.values
      body = sound x.values fit.0

      w : Waiting
      w = record { scope = at.behind.0; activation = h.own }

      end : Item
      end = EndsCall (results q.parameters) opened x.targets

      same : opened_in (body_items q end items) ≡ opened_by opened (opened_in items)
      same = opened_body q end items

  frame_sound : (n : ℕ) (go : SourceStepped) → IsSoundStep h (opened_in items) go → IsSoundStep h (opened_in items) (if_frame_left h n items go)
  frame_sound zero go f = at_refused h s outer a items at StorageError
  frame_sound (suc n) go f = f

  pub plain_sound : (q : Procedure) (x : Actuals) → IsSoundProcedure h.program h.memory q → ActualsFit Worth h.program h.own q.parameters x
      → IsHeld q.object (opened_in items)
      → IsSoundStep h (opened_in items) (plain_call h q x items)
  plain_sound q x sound fit held = frame_sound (frames_here h items) (run_body h Quiet None q x items)
      (enters_sound q x Quiet None sound fit refl held (refl, refl) (λ t. tt))

  opens_sound : (o : ℕ) (q : Procedure) (x : Actuals) → IsSoundProcedure h.program h.memory q → ActualsFit Worth h.program h.own q.parameters x
      → q.object ≡ Some o → call_refusal h.kernel h.task o ≡ None
      → IsSoundStep h (opened_in items) (run_body h (Opens o) (Some o) q x items)
  opens_sound o q x sound fit owner allowed =
      enters_sound q x (Opens o) (Some o) sound fit refl (subst
      (λ w. IsHeld w (ForCall o ∷ opened_in items)) (sym owner) (inl refl)) (refl, refl, allowed) (λ t. tt)

  pub external_sound : (o : ℕ) (q : Procedure) (x : Actuals) → IsSoundProcedure h.program h.memory q → ActualsFit Worth h.program h.own q.parameters x
      → q.object ≡ Some o
      → IsSoundStep h (opened_in items) (external_call h o q x items)
  external_sound o q x sound fit owner = by_refusal (call_refusal h.kernel h.task o) refl
    where
      go : SourceStepped
      go = if_frame_left h (frames_here h items) items (run_body h (Opens o) (Some o) q x items)

      by_refusal : (r : Option Refusal) → call_refusal h.kernel h.task o ≡ r → IsSoundStep h (opened_in items) (unless_refused h r items go)
      by_refusal None is = frame_sound (frames_here h items) (run_body h (Opens o) (Some o) q x items) (opens_sound o q x sound fit owner is)
      by_refusal (Some r) is = at_refused h s outer a items at ProgramError

  queue_sound : (o : ℕ) (q : Procedure) (x : Actuals) → ActualsFit Worth h.program h.own q.parameters x → q.object ≡ Some o
      → entry_of h.program.procedures o ≡ Some q
      → is_inside_any h.kernel h.task ≡ false → is_above_ceiling h.kernel h.task o ≡ false → is_open h.program h.memory o ≡ false
      → IsSoundStep h (opened_in items) (queue_call h o q x items)
  queue_sound o q x fit owner only outside below closed =
      at_chosen h s outer a items (is_full h.kernel o) (raises_predefined h ProgramError items) _ (λ i. at_refused h s outer a items at ProgramError)
      (λ free.
      worked h s outer c a (Queues o) (Goes (Queued q x.values x.targets ∷ items)) (opened_in items) at.behind.0 at.behind.1
      (record { owner = owner; only = only; given = fit.0; targets = fit.1 }, at.behind.2) (refl, refl, outside, below, closed, free) at.held tt)

  pub entry_sound : (o : ℕ) (q : Procedure) (x : Actuals) → IsSoundProcedure h.program h.memory q → ActualsFit Worth h.program h.own q.parameters x
      → q.object ≡ Some o
      → entry_of h.program.procedures o ≡ Some q → is_inside_any h.kernel h.task ≡ false → IsSoundStep h (opened_in items) (entry_call h o q x items)
  entry_sound o q x sound fit owner only outside =
      let runs = run_body h (Opens o) (Some o) q x items in
      let waits = queue_call h o q x items in
      at_chosen h s outer a items (is_above_ceiling h.kernel h.task o) (raises_predefined h ProgramError items)
      (if_frame_left h (frames_here h items) items (cond (is_open h.program h.memory o) runs waits)) (λ i. at_refused h s outer a items at ProgramError)
      (λ below.
      frame_sound (frames_here h items) (cond (is_open h.program h.memory o) runs waits)
      (at_chosen h s outer a items (is_open h.program h.memory o) runs waits
      (λ i. opens_sound o q x sound fit owner (allowed below)) (λ closed. queue_sound o q x fit owner only outside below closed)))
    where
      allowed : is_above_ceiling h.kernel h.task o ≡ false → call_refusal h.kernel h.task o ≡ None
      allowed below =
          ap (λ b. cond b (Some SameObject) (cond (is_above_ceiling h.kernel h.task o) (Some AboveCeiling) None))
          (outside_all (h.kernel.actions h.task) o outside)
          ∙ ap (λ b. cond b (Some AboveCeiling) None) below
