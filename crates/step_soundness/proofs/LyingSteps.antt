-- Each step of a task keeps all values in their subtypes: what is declared, stored, passed and copied back lies there.
use Rattle.std.proofs.Common.{◌≡◌, ℕ, zero, suc, List, [], ◌∷◌, ◌++◌, map, Bool, true, false, cond, Option, Some, None, refl, sym, ap, ◌∙◌, subst}
use Rattle.std.specs.Prelude.{ℤ, int_lt, is_some}
use Rattle.expr_soundness.specs.kernel.specs.Effects.{Dies, Effect, Ends, Finishes, Opens, Queues, Quiet, Refusal, Says, call_refusal, is_above_ceiling, is_full, is_inside_any}
use Rattle.expr_soundness.specs.ada_tree.specs.declared.expression.Identifier.{Identifier}
use Rattle.expr_soundness.specs.ada_tree.specs.declared.program.MainStatement.{MainStatement}
use Rattle.expr_soundness.specs.ada_tree.specs.declared.program.MainStatement.TheVariants as main
use Rattle.expr_soundness.specs.ada_tree.specs.ExpressionTree.{ExprTree, NameTree}
use Rattle.expr_soundness.specs.ada_tree.specs.StatementTree as statements
use Rattle.expr_soundness.specs.ada_tree.specs.StatementTree.{DeclarationTree, LocalObject, LocalTask, LocalProtected, ObjectTree, IterationTree, Forever, While, For, StmtTree, StmtTrees, NoStmts, MoreStmts, ElsifTrees, NoElsifs, MoreElsifs}
use Rattle.expr_soundness.specs.types.specs.declared.entity.Subtype.{Subtype}
use Rattle.expr_soundness.specs.types.specs.declared.standing.Standing.{Standing}
use Rattle.expr_soundness.specs.types.specs.Scopes.{Scope, form_at}
use Rattle.expr_soundness.specs.types.specs.Standings.{standing_of}
use Rattle.expr_soundness.specs.types.specs.Values as values
use Rattle.expr_soundness.specs.types.specs.Values.{Value}
use Rattle.expr_soundness.specs.types.specs.Evaluations.{Val, Gives, Raises, Meaningless, and_then}
use Rattle.expr_soundness.specs.types.specs.Evaluating.{passed}
use Rattle.expr_soundness.specs.types.specs.Places.{Object, object_of}
use Rattle.expr_soundness.specs.expr_rules.specs.declared.own.Wanted.TheVariants.{OfType}
use Rattle.expr_soundness.specs.expr_rules.specs.Typing.{typed_wanted}
use Rattle.expr_soundness.specs.expr_rules.specs.ExpressionRules.{faults_of, target_faults}
use Rattle.expr_soundness.specs.expr_rules.proofs.TypedLaw.{back_empty, front_empty}
use Rattle.expr_soundness.specs.type_rules.specs.SubtypeNames.{declared_twice, subtype_faults, wanted_by}
use Rattle.expr_soundness.specs.type_rules.specs.ObjectRules.{local_initial_faults, local_object_faults}
use Rattle.stmt_rules.specs.declared.around.Around.{Around}
use Rattle.stmt_rules.specs.SimpleRules.{assigned_wanted}
use Rattle.stmt_rules.specs.StatementRules.{stmt_faults}
use Rattle.expr_soundness.specs.CompositesLaw.{CompositesLie, PartsLieHere}
use Rattle.expr_soundness.specs.Lying.{ObjectLies, ObjectsLie, OnGives, lies, lies_inside}
use Rattle.expr_soundness.proofs.Numbers.{within_itself}
use Rattle.expr_soundness.proofs.SeenValues.{found_each}
use Rattle.expr_soundness.specs.StoringLaw.{StoredValuesLie}
use Rattle.expr_soundness.specs.meaning.specs.Programs.{Parameter, Procedure, Program, subtype_named}
use Rattle.expr_soundness.specs.meaning.specs.Works.{Activation, Completion, Completed, Pending, GivenToCaller, Raised, Results, Home, InActivation, InPackage, InObject, Item, Declares, DeclaresParameter, Sequence, Does, DoesMain, Repeats, RepeatsWhile, RepeatsFor, Handles, EndsHandler, EndsCall, EndsAction, EndsServed, Queued, Part, Target, Work, Goes, Copies, Raising}
use Rattle.expr_soundness.specs.meaning.specs.Targets.{objects_of, target, value_in}
use Rattle.expr_soundness.specs.meaning.specs.Calls.{Actuals, body_items, declares_parameters, is_open, is_out, results, results_in, with_value_of}
use Rattle.expr_soundness.specs.meaning.specs.SourceSteps.{Here, SourceStepped, alternative, alternative_for, assign, before, begin_loop, behind_loop, call_ended, call_raised, completed, condition, copy_step, copying, declare, declared_value, delay_until, end_of_body, entry_call, evaluate, external_call, for_range, for_turn, frames_here, goes, handled, handled_exception, handler_for, here_of, if_frame_left, item_step, items_of, leaves, main_call, main_step, means_nothing, next_number, next_turn, otherwise, place_of, plain_call, queue_call, raise_named, raise_number, raise_step, raises, run_body, statement_step, stores, unless_refused, while_turn, with_object, with_value, work_step, works}
use Rattle.step_soundness.specs.Objects.{AreTargets, GivesOrRaises, IsReached, IsTarget}
use Rattle.step_soundness.specs.Fitting.{result_types}
use Rattle.step_soundness.specs.Opened.{ForCall, ForCaller, IsHeld, Opened, opened_in}
use Rattle.step_soundness.specs.Judged.{AreResults, IsLegalLocal, IsMainStatement, IsReady, IsWork, Judged, Waiting}
use Rattle.step_soundness.specs.Laws.{Premises}
use Rattle.step_soundness.specs.InSubtypes.{CallersLie, CompletionLies, GivenLies, IsBegun, ItemLies, ItemsLie, ParametersBegin, PartsLie, StepLies, StepsKeepSubtypes, StoreLies, WorkLies, target_type}
use Rattle.step_soundness.proofs.Aiming.{IsNamedTarget, NamesTarget, names_target, objects_at}
use Rattle.step_soundness.proofs.Raising.{target_predefined}
use Rattle.step_soundness.proofs.Reaching.{target_reached}
use Rattle.step_soundness.proofs.Going.{At, Current, agrees_here, functions_here}
use Rattle.step_soundness.proofs.Storing.{object_there}
use Rattle.step_soundness.proofs.Stating.{target_comes, target_of_place}
use Rattle.step_soundness.proofs.Passing.{ActualsFit, Passes}
use Rattle.step_soundness.proofs.Calling.{found_here}
use Rattle.step_soundness.proofs.Callees.{CallArms, call_met}
use Rattle.step_soundness.proofs.Elaborating.{IsDeclared, declared_subtype}
use Rattle.step_soundness.proofs.LyingPlaces.{parts_seen}
use Rattle.step_soundness.proofs.LyingLists.{bound_lies, found_inside, object_inside, passed_lies, stored_at, then_passed}

-- ---- items

module _ (s : Scope) where
  before_lies : (body : StmtTrees) (items : List Item) → ItemsLie s items → ItemsLie s (before body items)
  before_lies NoStmts items l = l
  before_lies (MoreStmts x rest) items l = (tt, before_lies rest items l)

  declares_lies : (ds : List DeclarationTree) (items : List Item) → ItemsLie s items → ItemsLie s (map Declares ds ++ items)
  declares_lies [] items l = l
  declares_lies (d ∷ ds) items l = (tt, declares_lies ds items l)

  parameters_lie : (fs : List Parameter) (items : List Item) → ParametersBegin s fs → ItemsLie s items → ItemsLie s (declares_parameters fs items)
  parameters_lie [] items begun l = l
  parameters_lie (f ∷ fs) items begun l = by_mode (is_out f.mode) (parameters_lie fs items begun.1 l)
    where
      by_mode : (b : Bool) → ItemsLie s (declares_parameters fs items)
          → ItemsLie s (cond b (DeclaresParameter f ∷ declares_parameters fs items) (declares_parameters fs items))
      by_mode true k = (begun.0, k)
      by_mode false k = k

  pub body_lies : (q : Procedure) (end : Item) (items : List Item) → ParametersBegin s q.parameters → ItemLies s end → ItemsLie s items
      → ItemsLie s (body_items q end items)
  body_lies q end items begun k l =
      parameters_lie q.parameters (map Declares q.body.declarations ++ Sequence q.body.statements q.body.handlers ∷ end ∷ items) begun
      (declares_lies q.body.declarations (Sequence q.body.statements q.body.handlers ∷ end ∷ items) (tt, (k, l)))

  behind_lies : (items : List Item) → ItemsLie s items → ItemsLie s (behind_loop items)
  behind_lies [] l = tt
  behind_lies (Repeats body ∷ items) l = l.1
  behind_lies (RepeatsWhile e body ∷ items) l = l.1
  behind_lies (RepeatsFor parameter reversed now last body ∷ items) l = l.1
  behind_lies (Declares d ∷ items) l = behind_lies items l.1
  behind_lies (DeclaresParameter f ∷ items) l = behind_lies items l.1
  behind_lies (Sequence body all ∷ items) l = behind_lies items l.1
  behind_lies (Does x ∷ items) l = behind_lies items l.1
  behind_lies (DoesMain x ∷ items) l = behind_lies items l.1
  behind_lies (Handles all ∷ items) l = behind_lies items l.1
  behind_lies (EndsHandler x ∷ items) l = behind_lies items l.1
  behind_lies (EndsCall names opened xs ∷ items) l = behind_lies items l.1
  behind_lies (EndsAction o completion ∷ items) l = behind_lies items l.1
  behind_lies (EndsServed o names completion ∷ items) l = behind_lies items l.1
  behind_lies (Queued q vs xs ∷ items) l = behind_lies items l.1

  end_lies : (items : List Item) → ItemsLie s items → ItemsLie s (end_of_body items)
  end_lies [] l = tt
  end_lies (EndsCall names opened xs ∷ items) l = l
  end_lies (EndsServed o names completion ∷ items) l = l
  end_lies (Repeats body ∷ items) l = end_lies items l.1
  end_lies (RepeatsWhile e body ∷ items) l = end_lies items l.1
  end_lies (RepeatsFor parameter reversed now last body ∷ items) l = end_lies items l.1
  end_lies (Declares d ∷ items) l = end_lies items l.1
  end_lies (DeclaresParameter f ∷ items) l = end_lies items l.1
  end_lies (Sequence body all ∷ items) l = end_lies items l.1
  end_lies (Does x ∷ items) l = end_lies items l.1
  end_lies (DoesMain x ∷ items) l = end_lies items l.1
  end_lies (Handles all ∷ items) l = end_lies items l.1
  end_lies (EndsHandler x ∷ items) l = end_lies items l.1
  end_lies (EndsAction o completion ∷ items) l = end_lies items l.1
  end_lies (Queued q vs xs ∷ items) l = end_lies items l.1

  otherwise_lies : (place : ℕ) (elsifs : ElsifTrees) (others : StmtTrees) (items : List Item) → ItemsLie s items
      → ItemsLie s (otherwise place elsifs others items)
  otherwise_lies place NoElsifs others items l = before_lies others items l
  otherwise_lies place (MoreElsifs e body rest) others items l = (tt, l)

  -- ---- results on their way

  pub copying_lies : (vs : List Value) (xs : List Target) (items : List Item) → PartsLie s (map target_type xs) vs → ItemsLie s items
      → WorkLies s (copying vs xs items)
  copying_lies (v ∷ vs) (x ∷ xs) items k l = (k, l)
  copying_lies [] xs items k l = l
  copying_lies (v ∷ vs) [] items k l = l

  completed_lies : (completion : Completion) (items : List Item) → CompletionLies s completion → ItemsLie s items → WorkLies s (completed completion items)
  completed_lies (Completed vs xs) items k l = copying_lies vs xs items k l
  completed_lies (Pending x) items k l = l

  call_ended_lies : (opened : Option ℕ) (vs : List Value) (xs : List Target) (items : List Item) → PartsLie s (map target_type xs) vs → ItemsLie s items
      → WorkLies s (call_ended opened vs xs items)
  call_ended_lies None vs xs items k l = copying_lies vs xs items k l
  call_ended_lies (Some o) vs xs items k l = (k, l)

  call_raised_lies : (x : ℕ) (opened : Option ℕ) (items : List Item) → ItemsLie s items → WorkLies s (call_raised x opened items)
  call_raised_lies x None items l = l
  call_raised_lies x (Some o) items l = (tt, l)

-- the types of targets
pub types_of_targets : (program : Program) (a : Activation) (types : List ℕ) (xs : List Target) → AreTargets program a types xs → map target_type xs ≡ types
types_of_targets program a [] [] h = refl
types_of_targets program a (n ∷ types) (x ∷ xs) h = ap (λ k. k ∷ map target_type xs) h.0 ∙ ap (λ l. n ∷ l) (types_of_targets program a types xs h.2)
types_of_targets program a [] (x ∷ xs) h = absurd h
types_of_targets program a (n ∷ types) [] h = absurd h

pub none_given : (program : Program) (opened : List Opened) → GivenLies program opened None
none_given program [] = tt
none_given program (ForCall o ∷ outer) = tt
none_given program (ForCaller o ∷ outer) = tt

raised_given : (program : Program) (x : ℕ) (opened : List Opened) → GivenLies program opened (Some (Raised x))
raised_given program x [] = tt
raised_given program x (ForCall o ∷ outer) = tt
raised_given program x (ForCaller o ∷ outer) = tt

-- ---- a step

module _ (composites : CompositesLie) (stored : StoredValuesLie) (h : Here) (s : Scope) (outer : List Waiting) (laws : Premises h.program)
    (begun : IsBegun h.program) (c : Current h s outer) (store : StoreLies h.program.scope h.memory) (own : ObjectsLie h.program.scope h.own.locals)
    (callers : CallersLie h.program.scope h.callers) (opened : List Opened) where
  abbrev Lie : SourceStepped → Type 0
  Lie x = StepLies h.program opened x

  abbrev Items : List Item → Type 0
  Items items = ItemsLie h.program.scope items

  works_lie : (e : Effect) (w : Work) → WorkLies h.program.scope w → Lie (works h e w)
  works_lie e w k = record { store = store; task = record { work = k; own = own; callers = callers }; given = none_given h.program opened }

  goes_lie : (items : List Item) → Items items → Lie (goes h items)
  goes_lie items l = works_lie Quiet (Goes items) l

  raises_lie : (x : ℕ) (items : List Item) → Items items → Lie (raises h x items)
  raises_lie x items l = works_lie Quiet (Raising x items) l

  nothing_lies : (items : List Item) → Items items → Lie (means_nothing h items)
  nothing_lies items l = works_lie (Dies 0) (Goes items) l

  added_lies : (x : Object) (items : List Item) → ObjectLies h.program.scope x → Items items → Lie (with_object h x items)
  added_lies x items k l = record { store = store; task = record { work = l; own = (k, own); callers = callers }; given = none_given h.program opened }

  value_lies : {A : Type 0} (P : A → Type 0) (v : Val A) (items : List Item) (go : A → SourceStepped) → Items items → OnGives P v → ((x : A) → P x → Lie (go x))
      → Lie (with_value h v items go)
  value_lies P (Gives x) items go l k f = f x k
  value_lies P (Raises x) items go l k f = raises_lie x items l
  value_lies P Meaningless items go l k f = nothing_lies items l

  any_value : {A : Type 0} (v : Val A) (items : List Item) (go : A → SourceStepped) → Items items → ((x : A) → Lie (go x)) → Lie (with_value h v items go)
  any_value (Gives x) items go l f = f x
  any_value (Raises x) items go l f = raises_lie x items l
  any_value Meaningless items go l f = nothing_lies items l

  either : (b : Bool) (x y : SourceStepped) → Lie x → Lie y → Lie (cond b x y)
  either true x y k l = k
  either false x y k l = l

  -- ---- what expressions are worth

  parts_here : (items : List Item) → PartsLieHere s (place_of h items)
  parts_here items = parts_seen h.program h.memory h.own (place_of h items) store own s (agrees_here h s outer c items)

  inside_here : (items : List Item) (e : ExprTree) (n : ℕ) → is_some (form_at s n) ≡ true → faults_of s (OfType n) e ≡ []
      → OnGives (λ v. lies_inside h.program.scope n v ≡ true) (evaluate h items e)
  inside_here items e n known legal =
      composites s (place_of h items) (agrees_here h s outer c items) (functions_here h s outer c items) begun.results (parts_here items) e n known legal

  -- ---- declarations

  object_lies : (d : ObjectTree) (items : List Item) → local_object_faults s d ≡ [] → Items items → Lie (declare h (LocalObject d) items)
  object_lies d items legal l =
      value_lies (λ v. lies h.program.scope t v ≡ true) (declared_value h items d d.value) items _ l (comes d.value initial_legal)
      (λ v k. added_lies _ items k l)
    where
      two : subtype_faults s d.subtype ++ local_initial_faults s d ≡ []
      two = front_empty (subtype_faults s d.subtype ++ local_initial_faults s d) (declared_twice s d.name) legal

      x : IsDeclared s (place_of h items) d.subtype
      x = declared_subtype s (place_of h items) d.subtype (agrees_here h s outer c items)
          (front_empty (subtype_faults s d.subtype) (local_initial_faults s d) two)

      t : Subtype
      t = subtype_named h.program.scope d.subtype

      initial_legal : local_initial_faults s d ≡ []
      initial_legal = back_empty (subtype_faults s d.subtype) (local_initial_faults s d) two

      comes : (e : Option ExprTree) → local_initial_faults s (record d { value = e }) ≡ []
          → OnGives (λ v. lies h.program.scope (subtype_named h.program.scope d.subtype) v ≡ true) (declared_value h items d e)
      comes (Some y) k =
          then_passed h.program.scope (subtype_named h.program.scope d.subtype) (evaluate h items y)
          (subst (λ u. OnGives (λ v. lies_inside h.program.scope u.type_number v ≡ true) (evaluate h items y)) (sym x.here)
          (inside_here items y x.subtype.type_number x.known (subst (λ o. faults_of s (wanted_by o) y ≡ []) x.named k)))
      comes None k = begun.named d.subtype

  declares_lie : (d : DeclarationTree) (items : List Item) → IsLegalLocal s d → Items items → Lie (declare h d items)
  declares_lie (LocalObject d) items legal l = object_lies d items legal.0 l
  declares_lie (LocalTask d) items legal l = nothing_lies items l
  declares_lie (LocalProtected d) items legal l = nothing_lies items l

  -- ---- what is stored

  stores_lie : (x : Target) (v : Value) (w : Work) → IsTarget h.program h.own x → lies h.program.scope x.subtype v ≡ true → WorkLies h.program.scope w
      → Lie (stores h x v w)
  stores_lie x v w target k l =
      let after = stored_at stored h c.store store own x.home x.name x.parts x.subtype v target k in
      record { store = after.0; task = record { work = l; own = after.1; callers = callers }; given = none_given h.program opened }

  assign_lies : (a : Around) (name : NameTree) (e : ExprTree) (items : List Item) → At h s outer a items
      → target_faults s name.first name.selectors ++ faults_of s (assigned_wanted s name) e ≡ [] → Items items → Lie (assign h name e items)
  assign_lies a name e items at legal l =
      by_target (target (place_of h items) name.first.name name.selectors)
      (target_comes s (place_of h items) w (target (place_of h items) name.first.name name.selectors)
      (target_predefined (place_of h items) name.first.name name.selectors)
      (target_reached (place_of h items) name.first.name name.selectors) named)
    where
      w : Standing
      w = standing_of s name.first name.selectors

      named : NamesTarget s (place_of h items) w (target (place_of h items) name.first.name name.selectors)
      named =
          names_target laws.targets s (place_of h items) name.first name.selectors (agrees_here h s outer c items) (functions_here h s outer c items)
          (front_empty (target_faults s name.first name.selectors) (faults_of s (assigned_wanted s name) e) legal)

      legal_value : faults_of s (assigned_wanted s name) e ≡ []
      legal_value = back_empty (target_faults s name.first name.selectors) (faults_of s (assigned_wanted s name) e) legal

      by_target : (r : Val Target) → GivesOrRaises (λ x. IsNamedTarget s (place_of h items) w x × IsReached h.own.within x.home) r
          → Lie (with_value h r items (λ x. with_value h (and_then (evaluate h items e) (passed x.subtype)) items (λ v. stores h x v (Goes items))))
      by_target (Gives x) f =
          value_lies (λ v. lies h.program.scope x.subtype v ≡ true) (and_then (evaluate h items e) (passed x.subtype)) items (λ v. stores h x v (Goes items)) l
          (then_passed h.program.scope x.subtype (evaluate h items e)
          (inside_here items e x.subtype.type_number f.0.known (subst (λ o. faults_of s (typed_wanted o) e ≡ []) f.0.own legal_value)))
          (λ v k. stores_lie x v (Goes items) (target_of_place h s outer a items laws at w x f) k l)
      by_target (Raises y) f = raises_lie y items l
      by_target Meaningless f = nothing_lies items l

  copies_lie : (types : List ℕ) (vs : List Value) (xs : List Target) (items : List Item) → AreTargets h.program h.own types xs
      → PartsLie h.program.scope (map target_type xs) vs → Items items → Lie (copy_step h vs xs items)
  copies_lie (n ∷ types) (v ∷ vs) (x ∷ xs) items targets k l =
      value_lies (λ w. lies h.program.scope x.subtype w ≡ true) (passed x.subtype v) items (λ w. stores h x w (copying vs xs items)) l
      (passed_lies h.program.scope x.subtype v k.0)
      (λ w m. stores_lie x w (copying vs xs items) targets.1 m (copying_lies h.program.scope vs xs items k.1 l))
  copies_lie [] (v ∷ vs) (x ∷ xs) items targets k l = absurd targets
  copies_lie types [] xs items targets k l = goes_lie items l
  copies_lie types (v ∷ vs) [] items targets k l = goes_lie items l

  -- ---- loops

  turn_lies : (parameter : List ℕ) (reversed : Bool) (now last : ℤ) (body : StmtTrees) (items : List Item) → Items items
      → Lie (for_turn h parameter reversed now last body items)
  turn_lies parameter reversed now last body items l =
      added_lies _ (before body (RepeatsFor parameter reversed now last body ∷ items)) (within_itself now)
      (before_lies h.program.scope body (RepeatsFor parameter reversed now last body ∷ items) (tt, l))

  while_lies : (e : ExprTree) (body : StmtTrees) (items : List Item) → Items items → Lie (while_turn h e body items)
  while_lies e body items l = any_value (condition h items e) items _ l (λ holds. by_test holds)
    where
      by_test : (holds : Bool) → Lie (goes h (cond holds (before body (RepeatsWhile e body ∷ items)) items))
      by_test true = goes_lie (before body (RepeatsWhile e body ∷ items)) (before_lies h.program.scope body (RepeatsWhile e body ∷ items) (tt, l))
      by_test false = goes_lie items l

  range_lies : (parameter : Identifier) (reversed : Bool) (body : StmtTrees) (items : List Item) (v w : Value) → Items items
      → Lie (for_range h parameter reversed body items v w)
  range_lies parameter reversed body items (values.Number a) (values.Number b) l =
      either (int_lt b a) (goes h items) _ (goes_lie items l)
      (either reversed _ _ (turn_lies parameter.name true b a body items l) (turn_lies parameter.name false a b body items l))
  range_lies parameter reversed body items (values.Number a) (values.Truth b) l = nothing_lies items l
  range_lies parameter reversed body items (values.Number a) (values.Array vs) l = nothing_lies items l
  range_lies parameter reversed body items (values.Number a) (values.Record fs) l = nothing_lies items l
  range_lies parameter reversed body items (values.Truth b) w l = nothing_lies items l
  range_lies parameter reversed body items (values.Array vs) w l = nothing_lies items l
  range_lies parameter reversed body items (values.Record fs) w l = nothing_lies items l

  loop_lies : (iteration : IterationTree) (body : StmtTrees) (items : List Item) → Items items → Lie (begin_loop h iteration body items)
  loop_lies Forever body items l = goes_lie (before body (Repeats body ∷ items)) (before_lies h.program.scope body (Repeats body ∷ items) (tt, l))
  loop_lies (While e) body items l = while_lies e body items l
  loop_lies (For parameter reversed range) body items l =
      any_value (evaluate h items range.first) items _ l (λ v. any_value (evaluate h items range.last) items _ l
      (λ w. range_lies parameter reversed body items v w l))

  next_lies : (parameter : List ℕ) (reversed : Bool) (now last : ℤ) (body : StmtTrees) (items : List Item) → Items items
      → Lie (next_turn h parameter reversed now last body items)
  next_lies parameter reversed now last body items l =
      either _ (goes h items) _ (goes_lie items l)
      (any_value (next_number h reversed now) items _ l (λ next. turn_lies parameter reversed next last body items l))

  -- ---- calls

  abbrev Lies : Subtype → Value → Type 0
  Lies t v = lies h.program.scope t v ≡ true

  abbrev Begun : Procedure → Type 0
  Begun q = ParametersBegin h.program.scope q.parameters

  run_lies : (e : Effect) (o : Option ℕ) (q : Procedure) (x : Actuals) (items : List Item) → Begun q → ActualsFit Lies h.program h.own q.parameters x
      → Items items
      → Lie (run_body h e o q x items)
  run_lies e o q x items known fit l =
      record {
        store = store;
        task = record {
          work = body_lies h.program.scope q (EndsCall (results q.parameters) o x.targets) items known tt l;
          own = bound_lies h.program.scope q.parameters x.values fit.2;
          callers = (own, callers);
        };
        given = none_given h.program opened;
      }

  frame_lies : (n : ℕ) (items : List Item) (x : SourceStepped) → Items items → Lie x → Lie (if_frame_left h n items x)
  frame_lies zero items x l k = raises_lie _ items l
  frame_lies (suc n) items x l k = k

  refused_lies : (r : Option Refusal) (items : List Item) (x : SourceStepped) → Items items → Lie x → Lie (unless_refused h r items x)
  refused_lies None items x l k = k
  refused_lies (Some r) items x l k = raises_lie _ items l

  plain_lies : (q : Procedure) (x : Actuals) (items : List Item) → Begun q → ActualsFit Lies h.program h.own q.parameters x → Items items
      → Lie (plain_call h q x items)
  plain_lies q x items known fit l = frame_lies (frames_here h items) items (run_body h Quiet None q x items) l (run_lies Quiet None q x items known fit l)

  external_lies : (o : ℕ) (q : Procedure) (x : Actuals) (items : List Item) → Begun q → ActualsFit Lies h.program h.own q.parameters x → Items items
      → Lie (external_call h o q x items)
  external_lies o q x items known fit l =
      refused_lies (call_refusal h.kernel h.task o) items _ l
      (frame_lies (frames_here h items) items (run_body h (Opens o) (Some o) q x items) l (run_lies (Opens o) (Some o) q x items known fit l))

  queue_lies : (o : ℕ) (q : Procedure) (x : Actuals) (items : List Item) → Begun q → ActualsFit Lies h.program h.own q.parameters x → Items items
      → Lie (queue_call h o q x items)
  queue_lies o q x items known fit l =
      either (is_full h.kernel o) _ _ (raises_lie _ items l)
      (works_lie (Queues o) (Goes (Queued q x.values x.targets ∷ items)) ((bound_lies h.program.scope q.parameters x.values fit.2, known), l))

  entry_lies : (o : ℕ) (q : Procedure) (x : Actuals) (items : List Item) → Begun q → ActualsFit Lies h.program h.own q.parameters x → Items items
      → Lie (entry_call h o q x items)
  entry_lies o q x items known fit l =
      either (is_above_ceiling h.kernel h.task o) _ _ (raises_lie _ items l)
      (frame_lies (frames_here h items) items _ l
      (either (is_open h.program h.memory o) _ _ (run_lies (Opens o) (Some o) q x items known fit l) (queue_lies o q x items known fit l)))

  -- what is passed lies in the subtype of its formal
  same_objects : (home : Home) (name : List ℕ) (parts : List Part) (u : Subtype) (items : List Item)
      → objects_of (record { home = home; name = name; parts = parts; subtype = u }) h.memory h.own ≡ objects_at (place_of h items) home
  same_objects InActivation name parts u items = refl
  same_objects InPackage name parts u items = refl
  same_objects (InObject o) name parts u items = refl

  objects_lie : (home : Home) (items : List Item) → ObjectsLie h.program.scope (objects_at (place_of h items) home)
  objects_lie InActivation items = own
  objects_lie InPackage items = store.variables
  objects_lie (InObject o) items = store.components o

  passes : (items : List Item) → Passes h s items Lies
  passes items =
      record {
        expressions = λ t e known legal. then_passed h.program.scope t (evaluate h items e) (inside_here items e t.type_number known legal);
        variables = λ t x v same part is. passed_lies h.program.scope t v
            (subst (λ n. lies_inside h.program.scope n v ≡ true) same
            (found_inside h.program.scope (objects_at (place_of h items) x.home) x.name x.parts part.whole x.subtype v
            (objects_lie x.home items) part.found part.part
            (ap (λ l. value_in (object_of l x.name) x.parts) (sym (same_objects x.home x.name x.parts x.subtype items)) ∙ is)));
      }

  arms : (a : Around) (items : List Item) → Items items → CallArms h s outer a items Lies Begun Lie
  arms a items l =
      record {
        procedures = begun.procedures;
        entries = begun.entries;
        raised = λ x known. raises_lie x items l;
        plain = λ q x known fit held. plain_lies q x items known fit l;
        external = λ o q x known fit owner. external_lies o q x items known fit l;
        entered = λ o q x known fit owner only outside. entry_lies o q x items known fit l;
        says = λ label z. works_lie (Says label z) (Goes items) l;
      }

  -- ---- statements

  exit_lies : (holds : Bool) (items : List Item) → Items items → Lie (goes h (cond holds (behind_loop items) items))
  exit_lies true items l = goes_lie (behind_loop items) (behind_lies h.program.scope items l)
  exit_lies false items l = goes_lie items l

  if_lies : (place : ℕ) (body : StmtTrees) (more : ElsifTrees) (others : StmtTrees) (holds : Bool) (items : List Item) → Items items
      → Lie (goes h (cond holds (before body items) (otherwise place more others items)))
  if_lies place body more others true items l = goes_lie (before body items) (before_lies h.program.scope body items l)
  if_lies place body more others false items l = goes_lie (otherwise place more others items) (otherwise_lies h.program.scope place more others items l)

  number_lies : (x : Option ℕ) (items : List Item) → Items items → Lie (raise_number h x items)
  number_lies (Some x) items l = raises_lie x items l
  number_lies None items l = nothing_lies items l

  raise_lies : (name : Option Identifier) (items : List Item) → Items items → Lie (raise_named h name items)
  raise_lies (Some name) items l = number_lies _ items l
  raise_lies None items l = number_lies (handled_exception items) items l

  delay_lies : (v : Value) (items : List Item) → Items items → Lie (delay_until h items v)
  delay_lies (values.Number z) items l = works_lie _ (Goes items) l
  delay_lies (values.Truth b) items l = nothing_lies items l
  delay_lies (values.Array vs) items l = nothing_lies items l
  delay_lies (values.Record fs) items l = nothing_lies items l

  alternative_lies : (o : Option StmtTrees) (items : List Item) → Items items → Lie (alternative h o items)
  alternative_lies (Some body) items l = goes_lie (before body items) (before_lies h.program.scope body items l)
  alternative_lies None items l = nothing_lies items l

  statement_lies : (a : Around) (x : StmtTree) (items : List Item) → At h s outer a items → stmt_faults s a x ≡ [] → Items items
      → Lie (statement_step h x items)
  statement_lies a (statements.Null place) items at legal l = goes_lie items l
  statement_lies a (statements.Assignment name e) items at legal l = assign_lies a name e items at legal l
  statement_lies a (statements.Call name) items at legal l = call_met h s outer a items laws at Lies (passes items) Begun Lie (arms a items l) name legal
  statement_lies a (statements.Exit place None) items at legal l = goes_lie (behind_loop items) (behind_lies h.program.scope items l)
  statement_lies a (statements.Exit place (Some e)) items at legal l = any_value (condition h items e) items _ l (λ holds. exit_lies holds items l)
  statement_lies a (statements.Return place None) items at legal l = goes_lie (end_of_body items) (end_lies h.program.scope items l)
  statement_lies a (statements.Return place (Some e)) items at legal l = nothing_lies items l
  statement_lies a (statements.Raise place name) items at legal l = raise_lies name items l
  statement_lies a (statements.Delay place e) items at legal l = nothing_lies items l
  statement_lies a (statements.DelayUntil place e) items at legal l =
      either (is_inside_any h.kernel h.task) _ _ (raises_lie _ items l) (any_value (evaluate h items e) items _ l (λ v. delay_lies v items l))
  statement_lies a (statements.If place e body more others) items at legal l =
      any_value (condition h items e) items _ l (λ holds. if_lies place body more others holds items l)
  statement_lies a (statements.Case place e all) items at legal l =
      any_value (evaluate h items e) items _ l (λ v. alternative_lies (alternative_for (place_of h items) v all) items l)
  statement_lies a (statements.Loop place iteration body) items at legal l = loop_lies iteration body items l
  statement_lies a (statements.Block place declarations body all) items at legal l =
      goes_lie (map Declares declarations ++ Sequence body all ∷ items) (declares_lies h.program.scope declarations (Sequence body all ∷ items) (tt, l))
  statement_lies a (statements.Abort place name) items at legal l = nothing_lies items l
  statement_lies a (statements.Requeue place first second) items at legal l = nothing_lies items l
  statement_lies a (statements.Accept place name) items at legal l = nothing_lies items l
  statement_lies a (statements.Select place) items at legal l = nothing_lies items l

  main_lies : (m : MainStatement) (items : List Item) → IsMainStatement h.program m → Items items → Lie (main_step h m items)
  main_lies (main.Null place) items legal l = goes_lie items l
  main_lies (main.Call package_ name) items legal l =
      let q = legal.0 in
      let x : Actuals = record { values = []; targets = [] } in
      let here = found_here h.program None name.name q legal.1 in
      let fit : ActualsFit Lies h.program h.own q.parameters x = subst (λ fs. ActualsFit Lies h.program h.own fs x) (sym legal.2) (tt, tt, tt) in
      subst (λ o. Lie (main_call h o items)) (sym legal.1) (plain_lies q x items (begun.procedures here.owner name.name q here.is) fit l)

  -- ---- ends of bodies

  leaves_lie : (e : Effect) (cs : List Activation) (w : Work) (given : Option GivenToCaller) → CallersLie h.program.scope cs → WorkLies h.program.scope w
      → GivenLies h.program opened given → Lie (leaves h e cs w given)
  leaves_lie e [] w given k l g = record { store = store; task = record { work = l; own = own; callers = tt }; given = g }
  leaves_lie e (x ∷ cs) w given k l g = record { store = store; task = record { work = l; own = k.0; callers = k.1 }; given = g }

  results_lie : (types : List ℕ) (names : List (List ℕ)) → AreResults s types names → PartsLie h.program.scope types (results_in h.own.locals names)
  results_lie [] names are = tt
  results_lie (n ∷ types) (name ∷ names) are =
      let one = are.0 in
      let there = (c.own.fits (place_of h [])).results name one.0 one.1 one.2 one.3 in
      let x = object_there h.own.locals name one.1 there in
      let inside = object_inside h.program.scope x.0 (found_each (ObjectLies h.program.scope) h.own.locals name x.0 own x.1) in
      let same : x.0.subtype.type_number ≡ n = ap (λ (u : Subtype). u.type_number) x.2 ∙ one.4 in
      subst (λ o. PartsLie h.program.scope (n ∷ types) (with_value_of o (results_in h.own.locals names))) (sym x.1)
      (subst (λ k. lies_inside h.program.scope k x.0.value ≡ true) same inside, results_lie types names are.1)
  results_lie (n ∷ types) [] are = absurd are

-- ---- items

module _ (composites : CompositesLie) (stored : StoredValuesLie) (h : Here) (laws : Premises h.program) (begun : IsBegun h.program)
    (store : StoreLies h.program.scope h.memory) (own : ObjectsLie h.program.scope h.own.locals) (callers : CallersLie h.program.scope h.callers)
    (opened : List Opened) where
  abbrev Met : SourceStepped → Type 0
  Met x = StepLies h.program opened x

  -- the end of a call, and of a body that is run for a caller
  call_ends : (s : Scope) (outer : List Waiting) (c : Current h s outer) (a : Around) (names : List (List ℕ)) (o : Option ℕ) (xs : List Target)
      (items : List Item) → Judged h.program s outer a (EndsCall names o xs ∷ items) → ItemsLie h.program.scope items
      → Met (leaves h Quiet h.callers (call_ended o (results_in h.own.locals names) xs items) None)
  call_ends s [] c a names o xs items j l = absurd j
  call_ends s (w ∷ outer) c a names o xs items j l =
      leaves_lie composites stored h s (w ∷ outer) laws begun c store own callers opened Quiet h.callers _ None callers
      (call_ended_lies h.program.scope o (results_in h.own.locals names) xs items
      (subst (λ types. PartsLie h.program.scope types (results_in h.own.locals names)) (sym (types_of_targets h.program w.activation j.1 xs j.3))
      (results_lie composites stored h s (w ∷ outer) laws begun c store own callers opened j.1 names j.2))
      l)
      (none_given h.program opened)

served_ends : (composites : CompositesLie) (stored : StoredValuesLie) (h : Here) (laws : Premises h.program) (begun : IsBegun h.program)
    (store : StoreLies h.program.scope h.memory) (own : ObjectsLie h.program.scope h.own.locals) (callers : CallersLie h.program.scope h.callers)
    (s : Scope) (outer : List Waiting) (c : Current h s outer) (a : Around) (o : ℕ) (names : List (List ℕ)) (completion : Completion) (items : List Item)
    → Judged h.program s outer a (EndsServed o names completion ∷ items) → CompletionLies h.program.scope completion → ItemsLie h.program.scope items
    → StepLies h.program (ForCaller o ∷ opened_in items)
    (leaves h (Ends (is_open h.program h.memory o)) h.callers (completed completion items) (Some (Results (results_in h.own.locals names))))
served_ends composites stored h laws begun store own callers s [] c a o names completion items j k l = absurd j
served_ends composites stored h laws begun store own callers s (w ∷ outer) c a o names completion items j k l =
    leaves_lie composites stored h s (w ∷ outer) laws begun c store own callers (ForCaller o ∷ opened_in items) _ h.callers _ _ callers
    (completed_lies h.program.scope completion items k l) (
      j.1,
      j.2,
      results_lie composites stored h s (w ∷ outer) laws begun c store own callers (ForCaller o ∷ opened_in items)
          (result_types j.1.parameters) names j.3,
    )

module _ (composites : CompositesLie) (stored : StoredValuesLie) (h : Here) (s : Scope) (outer : List Waiting) (laws : Premises h.program)
    (begun : IsBegun h.program) (c : Current h s outer) (store : StoreLies h.program.scope h.memory) (own : ObjectsLie h.program.scope h.own.locals)
    (callers : CallersLie h.program.scope h.callers) (a : Around) where
  abbrev Step : List Opened → SourceStepped → Type 0
  Step opened x = StepLies h.program opened x

  abbrev goes_on : (opened : List Opened) (items : List Item) → ItemsLie h.program.scope items → Step opened (goes h items)
  goes_on opened items l = goes_lie composites stored h s outer laws begun c store own callers opened items l

  item_lies : (i : Item) (items : List Item) → IsHeld h.own.within (opened_in (i ∷ items)) → IsReady h.program h.own s outer a (i ∷ items)
      → ItemLies h.program.scope i
      → ItemsLie h.program.scope items → Step (opened_in (i ∷ items)) (item_step h i items)
  item_lies (Declares d) items held r k l = declares_lie composites stored h s outer laws begun c store own callers (opened_in items) d items r.0 l
  item_lies (DeclaresParameter f) items held r k l =
      added_lies composites stored h s outer laws begun c store own callers (opened_in items) _ items k l
  item_lies (Sequence body all) items held r k l =
      goes_on (opened_in items) (before body (Handles all ∷ items)) (before_lies h.program.scope body (Handles all ∷ items) (tt, l))
  item_lies (Does x) items held r k l =
      statement_lies composites stored h s outer laws begun c store own callers (opened_in items) a x items
      (record { current = c; held = held; behind = (r.1, r.2, r.3) }) r.0.0 l
  item_lies (DoesMain m) items held r k l = main_lies composites stored h s outer laws begun c store own callers (opened_in items) m items r.0 l
  item_lies (Repeats body) items held r k l =
      goes_on (opened_in items) (before body (Repeats body ∷ items)) (before_lies h.program.scope body (Repeats body ∷ items) (tt, l))
  item_lies (RepeatsWhile e body) items held r k l = while_lies composites stored h s outer laws begun c store own callers (opened_in items) e body items l
  item_lies (RepeatsFor parameter reversed now last body) items held r k l =
      next_lies composites stored h s outer laws begun c store own callers (opened_in items) parameter reversed now last body items l
  item_lies (Handles all) items held r k l = goes_on (opened_in items) items l
  item_lies (EndsHandler x) items held r k l = goes_on (opened_in items) items l
  item_lies (EndsCall names o xs) items held r k l =
      call_ends composites stored h laws begun store own callers (opened_in (EndsCall names o xs ∷ items)) s outer c a names o xs items r l
  item_lies (EndsAction o completion) items held r k l =
      works_lie composites stored h s outer laws begun c store own callers (ForCall o ∷ opened_in items) (Ends (is_open h.program h.memory o)) _
      (completed_lies h.program.scope completion items k l)
  item_lies (EndsServed o names completion) items held r k l =
      served_ends composites stored h laws begun store own callers s outer c a o names completion items r k l
  item_lies (Queued q vs xs) items held r k l = absurd r

  handled_lies : (opened : List Opened) (x : ℕ) (o : Option StmtTrees) (items : List Item) → ItemsLie h.program.scope items → Step opened (handled h x o items)
  handled_lies opened x (Some body) items l = goes_on opened (before body (EndsHandler x ∷ items))
      (before_lies h.program.scope body (EndsHandler x ∷ items) (tt, l))
  handled_lies opened x None items l = raises_lie composites stored h s outer laws begun c store own callers opened x items l

  raised_lies : (x : ℕ) (i : Item) (items : List Item) (opened : List Opened) → ItemLies h.program.scope i → ItemsLie h.program.scope items
      → Step opened (raise_step h x i items)
  raised_lies x (Handles all) items opened k l = handled_lies opened x (handler_for h.program x all) items l
  raised_lies x (EndsCall names o xs) items opened k l =
      leaves_lie composites stored h s outer laws begun c store own callers opened Quiet h.callers _ None callers
      (call_raised_lies h.program.scope x o items l) (none_given h.program opened)
  raised_lies x (EndsServed o names completion) items opened k l =
      leaves_lie composites stored h s outer laws begun c store own callers opened _ h.callers _ _ callers
      (completed_lies h.program.scope completion items k l) (raised_given h.program x opened)
  raised_lies x (Declares d) items opened k l = raises_lie composites stored h s outer laws begun c store own callers opened x items l
  raised_lies x (DeclaresParameter f) items opened k l = raises_lie composites stored h s outer laws begun c store own callers opened x items l
  raised_lies x (Sequence body all) items opened k l = raises_lie composites stored h s outer laws begun c store own callers opened x items l
  raised_lies x (Does y) items opened k l = raises_lie composites stored h s outer laws begun c store own callers opened x items l
  raised_lies x (DoesMain m) items opened k l = raises_lie composites stored h s outer laws begun c store own callers opened x items l
  raised_lies x (Repeats body) items opened k l = raises_lie composites stored h s outer laws begun c store own callers opened x items l
  raised_lies x (RepeatsWhile e body) items opened k l = raises_lie composites stored h s outer laws begun c store own callers opened x items l
  raised_lies x (RepeatsFor parameter reversed now last body) items opened k l =
      raises_lie composites stored h s outer laws begun c store own callers opened x items l
  raised_lies x (EndsHandler y) items opened k l = raises_lie composites stored h s outer laws begun c store own callers opened x items l
  raised_lies x (EndsAction o completion) items opened k l = raises_lie composites stored h s outer laws begun c store own callers opened x items l
  raised_lies x (Queued q vs xs) items opened k l = raises_lie composites stored h s outer laws begun c store own callers opened x items l

  work_lies : (w : Work) → IsHeld h.own.within (opened_in (items_of w)) → IsWork h.program h.own s outer a w → WorkLies h.program.scope w
      → Step (opened_in (items_of w)) (work_step h w)
  work_lies (Goes []) held is k = works_lie composites stored h s outer laws begun c store own callers [] Finishes (Goes []) tt
  work_lies (Goes (i ∷ items)) held is k = item_lies i items held is k.0 k.1
  work_lies (Copies vs xs items) held is k =
      copies_lie composites stored h s outer laws begun c store own callers (opened_in items) is.0 vs xs items is.2 k.0 k.1
  work_lies (Raising x []) held is k = works_lie composites stored h s outer laws begun c store own callers [] (Dies x) (Goes []) tt
  work_lies (Raising x (i ∷ items)) held is k = raised_lies x i items (opened_in (i ∷ items)) k.0 k.1

pub steps_keep_subtypes : CompositesLie → StoredValuesLie → StepsKeepSubtypes
steps_keep_subtypes composites stored program schedule k t s laws begun holds task store lies =
    work_lies composites stored (here_of program schedule k t s) task.scope task.outer laws begun
    (record { store = holds; own = task.own; callers = task.callers; all = task.all }) store lies.own lies.callers task.around s.task.work task.held
    task.work lies.work
