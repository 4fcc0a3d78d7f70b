-- A source run has no image fault, and no run that shows the same has one.
use Rattle.std.proofs.Common.{◌≡◌, ◌≢◌, ℕ, zero, suc, List, [], ◌∷◌, ◌++◌, ℤ, Option, Some, None, Bool, true, false, cond, refl, sym, ◌∙◌, ltb}
use Rattle.std.specs.Prelude.{int_lt}
use Rattle.base.specs.declared.limits.TheConstants.{PRIORITIES}
use Rattle.base.specs.declared.schedule.ScheduleLine.{ScheduleLine}
use Rattle.kernel.specs.State.{Interrupt, Kernel, Sleeper, Action, Outcome, Ended, WaitsForever, ImageFault, active}
use Rattle.kernel.specs.Dispatching.{leaves, becomes_ready, runs_head, runs_from, preempted, preempts, dispatch_from, dispatch, highest}
use Rattle.kernel.specs.Interrupts.{delivers, starts}
use Rattle.kernel.specs.Clock.{falls_asleep, released, next, some_queued, wakes_if_due, wakes_due, time_moves, clock_from, clock}
use Rattle.kernel.specs.Effects.{Effect, Quiet, Says, Delays, Opens, Queues, Ends, Finishes, Dies, Refusal, Ending, Closes, TakesOver, HandsBack, ending_of, ends, goes_if, is_over, outer_of, effect, after, blank, activated, call_refusal, is_above_ceiling, is_full, is_inside_any}
use Rattle.kernel.specs.Worlds.{World, Tasks, among, run, solo_of, step, step_of}
use Rattle.ada_tree.specs.declared.expression.Identifier.{Identifier}
use Rattle.ada_tree.specs.declared.program.MainStatement.{MainStatement}
use Rattle.ada_tree.specs.declared.program.MainStatement.TheVariants as main
use Rattle.ada_tree.specs.ExpressionTree as tree
use Rattle.ada_tree.specs.ExpressionTree.{ExprTree, NameTree, SelectorTrees, NoSelectors, MoreSelectors, Arguments, NoArguments, MoreArguments, Text}
use Rattle.ada_tree.specs.StatementTree as statements
use Rattle.ada_tree.specs.StatementTree.{DeclarationTree, IterationTree, StmtTree, StmtTrees, ElsifTrees}
use Rattle.ada_tree.specs.ProgramTree.{ProgramTree}
use Rattle.types.specs.Entities.{Entity, Put}
use Rattle.types.specs.Values as values
use Rattle.types.specs.Values.{Value}
use Rattle.types.specs.Evaluations.{Val, Gives, Raises, Meaningless, and_then}
use Rattle.types.specs.Evaluating.{passed}
use Rattle.type_rules.specs.SubtypeNames.{named_entity}
use Rattle.meaning.specs.Programs.{Procedure, subtype_named}
use Rattle.meaning.specs.Works.{Target, Item, Declares, DeclaresParameter, Sequence, Does, DoesMain, Repeats, RepeatsWhile, RepeatsFor, Handles, EndsHandler, EndsCall, EndsAction, EndsServed, Queued, Work, Goes, Copies, Raising, Activation, TaskWork, Store, GivenToCaller}
use Rattle.meaning.specs.Targets.{target}
use Rattle.meaning.specs.Calls.{Callee, Actuals, actuals, is_open, procedure_here, callee_by}
use Rattle.meaning.specs.SourceSteps.{Here, SourceStepped, here_of, before, behind_loop, otherwise, alternative_for, handler_for, place_of, evaluate, goes, with_object, stores, leaves as gone, with_value, declared_value, declare, condition, for_turn, for_range, begin_loop, next_number, frames_here, if_frame_left, run_body, plain_call, unless_refused, external_call, queue_call, entry_call, with_actuals_of, procedure_call, entry_call_of, call_of, put_line, put_call, call_or_put, raise_number, raise_named, delay_until, alternative, statement_step, main_call, main_step, item_step, copying, copy_step, handled, raise_step, work_step}
use Rattle.meaning.specs.Source.{partition_of, source_behaviour, source_start}
use Rattle.meaning.specs.Programs.{program_interrupts, program_of}
use Rattle.meaning.specs.Laws.{SourceNeverFaults, MeaningNeverFaults}

pub either : {A : Type 0} (P : A → Type 0) (b : Bool) (x y : A) → P x → P y → P (cond b x y)
either P true x y p q = p
either P false x y p q = q

-- The kernel: nothing but `Breaks` makes an image fault

abbrev Same : Kernel → Kernel → Type 0
Same l k = l.outcome ≡ k.outcome

head_same : (l : List ℕ) (h : ℕ) (k : Kernel) → Same (runs_head l h k) k
head_same [] h k = refl
head_same (t ∷ ts) h k = refl

from_same : (o : Option ℕ) (k : Kernel) → Same (runs_from o k) k
from_same None k = refl
from_same (Some h) k = head_same (k.ready h) h k

preempts_same : (t : ℕ) (o : Option ℕ) (k : Kernel) → Same (preempts t o k) k
preempts_same t None k = refl
preempts_same t (Some h) k = either (λ l. Same l k) (ltb (active k t) h) (runs_from (Some h) (preempted t k)) k (from_same (Some h) (preempted t k)) refl

dispatch_same_at : (r : Option ℕ) (k : Kernel) → Same (dispatch_from r k) k
dispatch_same_at None k = from_same (highest k.ready PRIORITIES) k
dispatch_same_at (Some t) k = preempts_same t (highest k.ready PRIORITIES) k

pub dispatch_same : (k : Kernel) → Same (dispatch k) k
dispatch_same k = dispatch_same_at k.running k

pub wakes_same : (ss : List Sleeper) (k : Kernel) → Same (wakes_due ss k) k
wakes_same [] k = refl
wakes_same (s ∷ ss) k =
    wakes_same ss (wakes_if_due s k)
    ∙ either (λ l. Same l k) (int_lt k.now s.wake) (record k { sleepers = k.sleepers ++ s ∷ [] }) (becomes_ready s.task (released s.task k)) refl refl

abbrev Sane : Kernel → Type 0
Sane k = k.outcome ≢ Some ImageFault

sane_as : (l k : Kernel) → Same l k → Sane k → Sane l
sane_as l k e h f = h (sym e ∙ f)

pub delivers_same : (is : List Interrupt) (k : Kernel) → Same (delivers is k) k
delivers_same [] k = refl
delivers_same (i ∷ is) k = either (λ l. Same l k) (int_lt k.now i.time) k (starts i (record k { pending = is })) refl refl

pub goes_same : (c : Bool) (t : ℕ) (k : Kernel) → Same (goes_if c t k) k
goes_same false t k = refl
goes_same true t k = delivers_same k.pending (leaves t k)

time_sane : (o : Option ℤ) (k : Kernel) → Sane k → Sane (time_moves o k)
time_sane None k h = either (λ o. Some o ≢ Some ImageFault) (some_queued k.queued k.partition.objects) WaitsForever Ended (λ e. cc) (λ e. cc)
time_sane (Some n) k h =
    let l : Kernel = record k { now = n; sleepers = [] } in
    let woken = wakes_due k.sleepers l in
    let told = delivers woken.pending woken in
    sane_as (dispatch told) k (dispatch_same told ∙ (delivers_same woken.pending woken ∙ wakes_same k.sleepers l)) h

clock_sane_at : (r : Option ℕ) (k : Kernel) → Sane k → Sane (clock_from r k)
clock_sane_at (Some t) k h = h
clock_sane_at None k h = time_sane (next k) k h

settled_sane : (k : Kernel) → Sane k → Sane (clock (dispatch k))
settled_sane k h = clock_sane_at (dispatch k).running (dispatch k) (sane_as (dispatch k) k (dispatch_same k) h)

-- the effects of source steps
data Plain : Effect → Type 0 where
  IsQuiet : Plain Quiet
  IsLine : {label : List ℕ} {v : ℤ} → Plain (Says label v)
  IsDelay : {until : ℤ} → Plain (Delays until)
  IsOpening : {object : ℕ} → Plain (Opens object)
  IsWaiting : {object : ℕ} → Plain (Queues object)
  IsEnding : {is_open : Bool} → Plain (Ends is_open)
  IsEnd : Plain Finishes
  IsDeath : {x : ℕ} → Plain (Dies x)

pub ends_same : (t : ℕ) (e : Ending) (outer : List Action) (k : Kernel) → Same (ends t e outer k) k
ends_same t Closes outer k = refl
ends_same t (TakesOver o u) outer k = refl
ends_same t (HandsBack u) outer k = refl

plain_sane : {e : Effect} (t : ℕ) (k : Kernel) → Plain e → Sane k → Sane (after t e k)
plain_sane t k IsQuiet h = settled_sane k h
plain_sane t k (IsLine {label = label} {v = v}) h = settled_sane (effect t (Says label v) k) h
plain_sane t k (IsDelay {until = until}) h =
    settled_sane (effect t (Delays until) k) (sane_as (effect t (Delays until) k) k (either (λ l. Same l k) (int_lt k.now until) (falls_asleep t until (leaves t k)) (becomes_ready t (leaves t k)) refl refl) h)
plain_sane t k (IsOpening {object = o}) h = settled_sane (effect t (Opens o) k) h
plain_sane t k (IsWaiting {object = o}) h = settled_sane (effect t (Queues o) k) h
plain_sane t k (IsEnding {is_open = b}) h =
    let e = ending_of b (k.actions t) k.queued in
    let l = ends t e (outer_of (k.actions t)) k in
    settled_sane (effect t (Ends b) k) (sane_as (effect t (Ends b) k) k (goes_same (is_over k.partition t (k.actions t) e) t l ∙ ends_same t e (outer_of (k.actions t)) k) h)
plain_sane t k IsEnd h = settled_sane (effect t Finishes k) h
plain_sane t k IsDeath h = λ e. cc

-- The source: no step breaks

abbrev Fine : SourceStepped → Type 0
Fine x = Plain x.effect

chosen : (b : Bool) (x y : SourceStepped) → Fine x → Fine y → Fine (cond b x y)
chosen b x y f g = either Fine b x y f g

module _ (h : Here) where
  gone_fine : (e : Effect) (cs : List Activation) (w : Work) (g : Option GivenToCaller) → Plain e → Fine (gone h e cs w g)
  gone_fine e [] w g f = f
  gone_fine e (c ∷ cs) w g f = f

  value_fine : {A : Type 0} (v : Val A) (items : List Item) (go : A → SourceStepped) → ((a : A) → Fine (go a)) → Fine (with_value h v items go)
  value_fine (Gives v) items go f = f v
  value_fine (Raises x) items go f = IsQuiet
  value_fine Meaningless items go f = IsDeath

  declare_fine : (d : DeclarationTree) (items : List Item) → Fine (declare h d items)
  declare_fine (statements.LocalObject d) items =
      value_fine (declared_value h items d d.value) items (λ v. with_object h (record { name = d.name.name; subtype = subtype_named h.program.scope d.subtype; value = v }) items) (λ v. IsQuiet)
  declare_fine (statements.LocalTask d) items = IsDeath
  declare_fine (statements.LocalProtected d) items = IsDeath

  range_fine : (parameter : Identifier) (reversed : Bool) (body : StmtTrees) (items : List Item) (v w : Value) → Fine (for_range h parameter reversed body items v w)
  range_fine parameter reversed body items (values.Number a) (values.Number b) =
      let up = for_turn h parameter.name false a b body items in
      let down = for_turn h parameter.name true b a body items in
      chosen (int_lt b a) (goes h items) (cond reversed down up) IsQuiet (chosen reversed down up IsQuiet IsQuiet)
  range_fine parameter reversed body items v w = IsDeath

  loop_fine : (i : IterationTree) (body : StmtTrees) (items : List Item) → Fine (begin_loop h i body items)
  loop_fine statements.Forever body items = IsQuiet
  loop_fine (statements.While e) body items = value_fine (condition h items e) items (λ holds. goes h (cond holds (before body (RepeatsWhile e body ∷ items)) items)) (λ holds. IsQuiet)
  loop_fine (statements.For parameter reversed range) body items =
      value_fine (evaluate h items range.first) items (λ v. with_value h (evaluate h items range.last) items (λ w. for_range h parameter reversed body items v w))
      (λ v. value_fine (evaluate h items range.last) items (λ w. for_range h parameter reversed body items v w) (λ w. range_fine parameter reversed body items v w))

  frame_fine : (n : ℕ) (items : List Item) (go : SourceStepped) → Fine go → Fine (if_frame_left h n items go)
  frame_fine zero items go f = IsQuiet
  frame_fine (suc n) items go f = f

  plain_call_fine : (q : Procedure) (a : Actuals) (items : List Item) → Fine (plain_call h q a items)
  plain_call_fine q a items = frame_fine (frames_here h items) items (run_body h Quiet None q a items) IsQuiet

  refused_fine : (r : Option Refusal) (items : List Item) (go : SourceStepped) → Fine go → Fine (unless_refused h r items go)
  refused_fine None items go f = f
  refused_fine (Some r) items go f = IsQuiet

  external_fine : (o : ℕ) (q : Procedure) (a : Actuals) (items : List Item) → Fine (external_call h o q a items)
  external_fine o q a items =
      let go = if_frame_left h (frames_here h items) items (run_body h (Opens o) (Some o) q a items) in
      refused_fine (call_refusal h.kernel h.task o) items go (frame_fine (frames_here h items) items (run_body h (Opens o) (Some o) q a items) IsOpening)

  queue_fine : (o : ℕ) (q : Procedure) (a : Actuals) (items : List Item) → Fine (queue_call h o q a items)
  queue_fine o q a items = either Fine (is_full h.kernel o) _ _ IsQuiet IsWaiting

  entry_fine : (o : ℕ) (q : Procedure) (a : Actuals) (items : List Item) → Fine (entry_call h o q a items)
  entry_fine o q a items =
      let runs = run_body h (Opens o) (Some o) q a items in
      let go = cond (is_open h.program h.memory o) runs (queue_call h o q a items) in
      chosen (is_above_ceiling h.kernel h.task o) _ (if_frame_left h (frames_here h items) items go) IsQuiet
      (frame_fine (frames_here h items) items go (chosen (is_open h.program h.memory o) runs (queue_call h o q a items) IsOpening (queue_fine o q a items)))

  actuals_fine : (c : Callee) (items : List Item) (go : Actuals → SourceStepped) → ((a : Actuals) → Fine (go a)) → Fine (with_actuals_of h c items go)
  actuals_fine c items go f = value_fine (actuals (place_of h items) h.memory h.own c.procedure.parameters c.arguments) items go f

  procedure_fine : (c : Callee) (o : Option ℕ) (items : List Item) → Fine (procedure_call h c o items)
  procedure_fine c None items = actuals_fine c items (λ a. plain_call h c.procedure a items) (λ a. plain_call_fine c.procedure a items)
  procedure_fine c (Some o) items = actuals_fine c items (λ a. external_call h o c.procedure a items) (λ a. external_fine o c.procedure a items)

  entry_of_fine : (c : Callee) (o : Option ℕ) (items : List Item) → Fine (entry_call_of h c o items)
  entry_of_fine c None items = IsDeath
  entry_of_fine c (Some o) items =
      chosen (is_inside_any h.kernel h.task) _ (with_actuals_of h c items (λ a. entry_call h o c.procedure a items)) IsQuiet
      (actuals_fine c items (λ a. entry_call h o c.procedure a items) (λ a. entry_fine o c.procedure a items))

  call_fine : (c : Callee) (barrier : Option ExprTree) (items : List Item) → Fine (call_of h c barrier items)
  call_fine c (Some barrier) items = entry_of_fine c c.procedure.object items
  call_fine c None items = procedure_fine c c.through items

  line_fine : (label : List ℕ) (items : List Item) (v : Value) → Fine (put_line h label items v)
  line_fine label items (values.Number z) = IsLine
  line_fine label items v = IsDeath

  put_fine : (e : Option Entity) (s : SelectorTrees) (items : List Item) → Fine (put_call h e s items)
  put_fine (Some Put) (MoreSelectors (Arguments (MoreArguments (Text label place) (MoreArguments (tree.Value e) NoArguments))) NoSelectors) items =
      value_fine (evaluate h items e) items (put_line h label items) (line_fine label items)
  put_fine e s items = IsDeath

  call_or_put_fine : (name : NameTree) (c : Option Callee) (items : List Item) → Fine (call_or_put h name c items)
  call_or_put_fine name (Some c) items = call_fine c c.procedure.barrier items
  call_or_put_fine name None items = put_fine (named_entity h.program.scope name.first) name.selectors items

  number_fine : (x : Option ℕ) (items : List Item) → Fine (raise_number h x items)
  number_fine (Some x) items = IsQuiet
  number_fine None items = IsDeath

  raise_fine : (name : Option Identifier) (items : List Item) → Fine (raise_named h name items)
  raise_fine (Some name) items = number_fine _ items
  raise_fine None items = number_fine _ items

  delay_fine : (items : List Item) (v : Value) → Fine (delay_until h items v)
  delay_fine items (values.Number z) = IsDelay
  delay_fine items v = IsDeath

  alternative_fine : (body : Option StmtTrees) (items : List Item) → Fine (alternative h body items)
  alternative_fine (Some body) items = IsQuiet
  alternative_fine None items = IsDeath

  statement_fine : (s : StmtTree) (items : List Item) → Fine (statement_step h s items)
  statement_fine (statements.Null place) items = IsQuiet
  statement_fine (statements.Assignment name e) items =
      value_fine (target (place_of h items) name.first.name name.selectors) items
      (λ x. with_value h (and_then (evaluate h items e) (passed x.subtype)) items (λ v. stores h x v (Goes items)))
      (λ x. value_fine (and_then (evaluate h items e) (passed x.subtype)) items (λ v. stores h x v (Goes items)) (λ v. IsQuiet))
  statement_fine (statements.Call name) items = call_or_put_fine name (callee_by h.program h.own.within name.first name.selectors) items
  statement_fine (statements.Exit place None) items = IsQuiet
  statement_fine (statements.Exit place (Some e)) items = value_fine (condition h items e) items (λ holds. goes h (cond holds (behind_loop items) items)) (λ holds. IsQuiet)
  statement_fine (statements.Return place None) items = IsQuiet
  statement_fine (statements.Return place (Some e)) items = IsDeath
  statement_fine (statements.Raise place name) items = raise_fine name items
  statement_fine (statements.DelayUntil place e) items =
      chosen (is_inside_any h.kernel h.task) _ (with_value h (evaluate h items e) items (delay_until h items)) IsQuiet (value_fine (evaluate h items e) items (delay_until h items) (delay_fine items))
  statement_fine (statements.If place e body elsifs others) items =
      value_fine (condition h items e) items (λ holds. goes h (cond holds (before body items) (otherwise place elsifs others items))) (λ holds. IsQuiet)
  statement_fine (statements.Case place e all) items =
      value_fine (evaluate h items e) items (λ v. alternative h (alternative_for (place_of h items) v all) items) (λ v. alternative_fine (alternative_for (place_of h items) v all) items)
  statement_fine (statements.Loop place iteration body) items = loop_fine iteration body items
  statement_fine (statements.Block place declarations body hs) items = IsQuiet
  statement_fine (statements.Delay place e) items = IsDeath
  statement_fine (statements.Abort place name) items = IsDeath
  statement_fine (statements.Requeue place first second) items = IsDeath
  statement_fine (statements.Accept place name) items = IsDeath
  statement_fine (statements.Select place) items = IsDeath

  main_call_fine : (q : Option Procedure) (items : List Item) → Fine (main_call h q items)
  main_call_fine (Some q) items = plain_call_fine q (record { values = []; targets = [] }) items
  main_call_fine None items = IsDeath

  main_fine : (s : MainStatement) (items : List Item) → Fine (main_step h s items)
  main_fine (main.Null place) items = IsQuiet
  main_fine (main.Call q name) items = main_call_fine (procedure_here h.program None name.name) items

  item_fine : (i : Item) (items : List Item) → Fine (item_step h i items)
  item_fine (Declares d) items = declare_fine d items
  item_fine (DeclaresParameter f) items = IsQuiet
  item_fine (Sequence s hs) items = IsQuiet
  item_fine (Does s) items = statement_fine s items
  item_fine (DoesMain s) items = main_fine s items
  item_fine (Repeats body) items = IsQuiet
  item_fine (RepeatsWhile e body) items = loop_fine (statements.While e) body items
  item_fine (RepeatsFor parameter reversed now last body) items =
      either Fine _ (goes h items) _ IsQuiet
      (value_fine (next_number h reversed now) items (λ next. for_turn h parameter reversed next last body items) (λ next. IsQuiet))
  item_fine (Handles hs) items = IsQuiet
  item_fine (EndsHandler x) items = IsQuiet
  item_fine (EndsCall names opened xs) items = gone_fine Quiet h.callers _ None IsQuiet
  item_fine (EndsAction o completion) items = IsEnding
  item_fine (EndsServed o names completion) items = gone_fine (Ends (is_open h.program h.memory o)) h.callers _ _ IsEnding
  item_fine (Queued q vs xs) items = IsDeath

  copy_fine : (vs : List Value) (xs : List Target) (items : List Item) → Fine (copy_step h vs xs items)
  copy_fine [] xs items = IsQuiet
  copy_fine (v ∷ vs) [] items = IsQuiet
  copy_fine (v ∷ vs) (x ∷ xs) items = value_fine (passed x.subtype v) items (λ w. stores h x w (copying vs xs items)) (λ w. IsQuiet)

  handled_fine : (x : ℕ) (o : Option StmtTrees) (items : List Item) → Fine (handled h x o items)
  handled_fine x None items = IsQuiet
  handled_fine x (Some s) items = IsQuiet

  raising_fine : (x : ℕ) (i : Item) (items : List Item) → Fine (raise_step h x i items)
  raising_fine x (Handles hs) items = handled_fine x (handler_for h.program x hs) items
  raising_fine x (EndsCall names opened xs) items = gone_fine Quiet h.callers _ None IsQuiet
  raising_fine x (EndsServed o names completion) items = gone_fine (Ends (is_open h.program h.memory o)) h.callers _ _ IsEnding
  raising_fine x (Declares d) items = IsQuiet
  raising_fine x (DeclaresParameter f) items = IsQuiet
  raising_fine x (Sequence s hs) items = IsQuiet
  raising_fine x (Does s) items = IsQuiet
  raising_fine x (DoesMain s) items = IsQuiet
  raising_fine x (Repeats body) items = IsQuiet
  raising_fine x (RepeatsWhile e body) items = IsQuiet
  raising_fine x (RepeatsFor parameter reversed now last body) items = IsQuiet
  raising_fine x (EndsHandler y) items = IsQuiet
  raising_fine x (EndsAction o completion) items = IsQuiet
  raising_fine x (Queued q vs xs) items = IsQuiet

  work_fine : (w : Work) → Fine (work_step h w)
  work_fine (Goes []) = IsEnd
  work_fine (Goes (i ∷ items)) = item_fine i items
  work_fine (Copies vs xs items) = copy_fine vs xs items
  work_fine (Raising x []) = IsDeath
  work_fine (Raising x (i ∷ items)) = raising_fine x i items

module _ (p : ProgramTree) (schedule : List ScheduleLine) where
  step_sane : (k : Kernel) (d : Tasks Store TaskWork) (o : Option Outcome) (r : Option ℕ) → Sane k → Sane (step_of (among (source_behaviour p schedule)) k d o r).kernel
  step_sane k d (Some o) r h = h
  step_sane k d None None h = h
  step_sane k d None (Some t) h = plain_sane t k (work_fine (here_of (program_of p) schedule k t (solo_of t d)) (d.tasks t).work) h

  run_sane : (n : ℕ) (w : World (Tasks Store TaskWork)) → Sane w.kernel → Sane (run (among (source_behaviour p schedule)) n w).kernel
  run_sane zero w h = h
  run_sane (suc n) w h = run_sane n (step (among (source_behaviour p schedule)) w) (step_sane w.kernel w.rest w.kernel.outcome w.kernel.running h)

activated_sane : (n : ℕ) (k : Kernel) → Sane k → Sane (activated n k)
activated_sane zero k h = h
activated_sane (suc n) k h = activated_sane n k h

pub source_never_faults : SourceNeverFaults
source_never_faults p schedule n =
    let q = partition_of p in
    let is = program_interrupts (program_of p) schedule in
    run_sane p schedule n (source_start p schedule) (settled_sane (activated q.tasks (blank q is)) (activated_sane q.tasks (blank q is) (λ e. cc)))

pub meaning_never_faults : MeaningNeverFaults
meaning_never_faults p i same schedule ok m e =
    let x = (same.shows schedule ok).back m in
    source_never_faults p schedule x.0 (x.1.ends ImageFault e).outcome_is
