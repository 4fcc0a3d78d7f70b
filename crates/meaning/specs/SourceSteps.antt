-- One step of a task: its first item is done, a result is copied back, or, where an exception is raised, the first item is dropped.
use Rattle.std.specs.Prelude.{ℕ, zero, suc, ℤ, pos, int_lt, Ok, Err, List, [], ◌∷◌, ◌++◌, map, Option, Some, None, Bool, true, false, ◌||◌, bytes_eq, if◌then◌else◌}
use Rattle.base.specs.Arithmetic.{Checked, difference_of, sum_of}
use Rattle.base.specs.Exceptions.{number_of}
use Rattle.base.specs.declared.schedule.ScheduleLine.{ScheduleLine}
use Rattle.base.specs.declared.exceptions.PredefinedException.{PredefinedException}
use Rattle.base.specs.declared.exceptions.PredefinedException.TheVariants.{ProgramError, StorageError}
use Rattle.kernel.specs.State.{Kernel, is_task, object_of}
use Rattle.kernel.specs.Effects.{Effect, Quiet, Says, Delays, Opens, Queues, Ends, Finishes, Dies, Refusal, call_refusal, is_above_ceiling, is_full, is_inside_any}
use Rattle.kernel.specs.Worlds.{Act, Behaviour, Solo, restarted}
use Rattle.ada_tree.specs.declared.expression.Identifier.{Identifier}
use Rattle.ada_tree.specs.declared.statement.ExceptionChoice.{ExceptionChoice}
use Rattle.ada_tree.specs.declared.statement.ExceptionChoice.TheVariants as choice
use Rattle.ada_tree.specs.declared.program.MainStatement.{MainStatement}
use Rattle.ada_tree.specs.declared.program.MainStatement.TheVariants as main
use Rattle.ada_tree.specs.ExpressionTree as tree
use Rattle.ada_tree.specs.ExpressionTree.{ExprTree, NameTree, SelectorTrees, NoSelectors, MoreSelectors, Arguments, MoreArguments, NoArguments, Text}
use Rattle.ada_tree.specs.StatementTree as statements
use Rattle.ada_tree.specs.StatementTree.{ObjectTree, DeclarationTree, LocalObject, IterationTree, Forever, While, For, ChoicesTree, OtherValues, StmtTree, Null, Assignment, Call, Exit, Return, Raise, DelayUntil, If, Case, Loop, Block, StmtTrees, NoStmts, MoreStmts, ElsifTrees, NoElsifs, MoreElsifs, AlternativeTrees, NoAlternatives, MoreAlternatives, HandlerTrees, NoHandlers, MoreHandlers}
use Rattle.types.specs.Entities.{Entity, Put}
use Rattle.types.specs.Shapes.{initial}
use Rattle.types.specs.Values as values
use Rattle.types.specs.Values.{Value}
use Rattle.types.specs.Evaluations.{Val, Gives, Raises, Meaningless, and_then, raise}
use Rattle.types.specs.Operators.{are_same, same_truth}
use Rattle.types.specs.Places.{Object, Place}
use Rattle.types.specs.Evaluating.{passed, truth_of, val}
use Rattle.type_rules.specs.SubtypeNames.{named_entity}
use Rattle.meaning.specs.Programs.{Parameter, Procedure, Program, exception_name, exception_number, subtype_named}
use Rattle.meaning.specs.Works.{Target, Completion, Completed, Pending, Item, Declares, DeclaresParameter, Sequence, Does, DoesMain, Repeats, RepeatsWhile, RepeatsFor, Handles, EndsHandler, EndsCall, EndsAction, EndsServed, Queued, Work, Goes, Copies, Raising, Activation, TaskWork, Store, GivenToCaller, Results, Raised, frames_left, turn_subtype}
use Rattle.meaning.specs.Targets.{target, store_with, activation_with}
use Rattle.meaning.specs.Starts.{initial_work}
use Rattle.meaning.specs.Calls.{Callee, callee_by, Actuals, actuals, activation_of, body_items, is_open, procedure_here, results, results_in}

-- what a step does: its effect, the store and the task's work after it, and what a served caller is given
abbrev pub SourceStepped : Type 0
SourceStepped = Act Store TaskWork GivenToCaller

-- the statements of a sequence, and then the items
abbrev pub before : StmtTrees → List Item → List Item
before NoStmts items = items
before (MoreStmts s rest) items = Does s ∷ before rest items

-- results that are still to be copied back, or the items
abbrev pub copying : List Value → List Target → List Item → Work
copying (v ∷ vs) (x ∷ xs) items = Copies (v ∷ vs) (x ∷ xs) items
copying vs xs items = Goes items

-- what comes after the end of an action
abbrev pub completed : Completion → List Item → Work
completed (Completed vs xs) items = copying vs xs items
completed (Pending x) items = Raising x items

-- the results wait until the action, if the call opened one, has ended
abbrev pub call_ended : Option ℕ → List Value → List Target → List Item → Work
call_ended None vs xs items = copying vs xs items
call_ended (Some o) vs xs items = Goes (EndsAction o (Completed vs xs) ∷ items)

-- an action that the call opened ends before the exception goes on
abbrev pub call_raised : ℕ → Option ℕ → List Item → Work
call_raised x None items = Raising x items
call_raised x (Some o) items = Goes (EndsAction o (Pending x) ∷ items)

-- ---- handlers (RM 11.2, 11.4)

abbrev pub covers : Program → ℕ → ExceptionChoice → Bool
covers p x (choice.Others place) = true
covers p x (choice.Exception name) = bytes_eq name.name (exception_name p x)

abbrev pub some_covers : Program → ℕ → List ExceptionChoice → Bool
some_covers p x [] = false
some_covers p x (c ∷ rest) = covers p x c || some_covers p x rest

-- the statements of the handler for an exception
abbrev pub handler_for : Program → ℕ → HandlerTrees → Option StmtTrees
handler_for p x NoHandlers = None
handler_for p x (MoreHandlers choices statements rest) = if some_covers p x choices then Some statements else handler_for p x rest

-- the exception of the innermost handler that is worked
abbrev pub handled_exception : List Item → Option ℕ
handled_exception [] = None
handled_exception (EndsHandler x ∷ items) = Some x
handled_exception (i ∷ items) = handled_exception items

-- ---- `exit` and `return` (RM 5.7, 6.5): what is left of the work

-- behind the innermost loop
abbrev pub behind_loop : List Item → List Item
behind_loop [] = []
behind_loop (Repeats body ∷ items) = items
behind_loop (RepeatsWhile condition body ∷ items) = items
behind_loop (RepeatsFor parameter reversed now last body ∷ items) = items
behind_loop (i ∷ items) = behind_loop items

-- from the end of the call or of the served body on
abbrev pub end_of_body : List Item → List Item
end_of_body [] = []
end_of_body (EndsCall results opened targets ∷ items) = EndsCall results opened targets ∷ items
end_of_body (EndsServed object results completion ∷ items) = EndsServed object results completion ∷ items
end_of_body (i ∷ items) = end_of_body items

-- ---- `if` (RM 5.3): each condition is a step, and where it does not hold, an `if` with the conditions behind it is left

abbrev pub otherwise : (place : ℕ) → ElsifTrees → StmtTrees → List Item → List Item
otherwise place NoElsifs others items = before others items
otherwise place (MoreElsifs e body rest) others items = Does (If place e body rest others) ∷ items

-- ---- `case` (RM 5.4)

abbrev pub is_chosen : Val Value → Value → Bool
is_chosen (Gives (values.Number a)) (values.Number b) = are_same a b
is_chosen (Gives (values.Truth a)) (values.Truth b) = same_truth a b
is_chosen c v = false

abbrev pub some_chosen : Place → List ExprTree → Value → Bool
some_chosen place [] v = false
some_chosen place (e ∷ rest) v = is_chosen (val place e) v || some_chosen place rest v

abbrev pub chooses : Place → ChoicesTree → Value → Bool
chooses place (statements.Values all) v = some_chosen place all v
chooses place (OtherValues at) v = true

abbrev pub alternative_for : Place → Value → AlternativeTrees → Option StmtTrees
alternative_for place v NoAlternatives = None
alternative_for place v (MoreAlternatives at choices body rest) = if chooses place choices v then Some body else alternative_for place v rest

-- ---- steps

-- what a step of a task sees: the program and its inputs, the kernel, the task, the store, the running activation and those that wait
pub record Here : Type 0 where
  pub program : Program
  pub schedule : List ScheduleLine
  pub kernel : Kernel
  pub task : ℕ
  pub memory : Store
  pub own : Activation
  pub callers : List Activation

-- a number that was computed, or its exception
abbrev pub number_computed : Checked → Val ℤ
number_computed (Ok z) = Gives z
number_computed (Err x) = raise x

module _ (h : Here) where
  abbrev pub frames_here : List Item → ℕ
  frames_here items = frames_left (is_task h.kernel.partition h.task) items

  -- where the task evaluates, with these items behind (RM 4)
  abbrev pub place_of : List Item → Place
  place_of items =
      record {
        scope = h.program.scope;
        functions = h.program.functions;
        schedule = h.schedule;
        now = h.kernel.now;
        variables = h.memory.variables;
        components = h.memory.components;
        locals = h.own.locals;
        within = h.own.within;
        actions = map object_of (h.kernel.actions h.task);
        priority = h.kernel.partition.base h.task;
        frames_left = frames_here items;
      }

  abbrev pub evaluate : List Item → ExprTree → Val Value
  evaluate items e = val (place_of items) e

  -- everything else stays as it is
  abbrev pub works : Effect → Work → SourceStepped
  works e w = record { effect = e; solo = record { memory = h.memory; task = record { work = w; own = h.own; callers = h.callers } }; given = None }

  abbrev pub goes : List Item → SourceStepped
  goes items = works Quiet (Goes items)

  abbrev pub raises : ℕ → List Item → SourceStepped
  raises x items = works Quiet (Raising x items)

  abbrev pub raises_predefined : PredefinedException → List Item → SourceStepped
  raises_predefined x items = raises (number_of x) items

  -- what no rule gives a meaning to; an accepted program never comes to that (docs/PROOF.md). The run ends by exception 0, which is none
  abbrev pub means_nothing : List Item → SourceStepped
  means_nothing items = works (Dies 0) (Goes items)

  -- the running activation with this object in front
  abbrev pub with_object : Object → List Item → SourceStepped
  with_object x items =
      record {
        effect = Quiet;
        solo = record {
          memory = h.memory;
          task = record { work = Goes items; own = record h.own { locals = x ∷ h.own.locals }; callers = h.callers };
        };
        given = None;
      }

  -- a value is stored, and the task goes on with this work
  abbrev pub stores : Target → Value → Work → SourceStepped
  stores x v w = record {
    effect = Quiet;
    solo = record {
      memory = store_with x v h.memory;
      task = record { work = w; own = activation_with x v h.own; callers = h.callers };
    };
    given = None;
  }

  -- a body begins
  abbrev pub enters : Effect → Activation → List Item → SourceStepped
  enters e a items = record {
    effect = e;
    solo = record { memory = h.memory; task = record { work = Goes items; own = a; callers = h.own ∷ h.callers } };
    given = None;
  }

  -- the running activation is gone, and the task goes on with this work
  abbrev pub leaves : Effect → List Activation → Work → Option GivenToCaller → SourceStepped
  leaves e [] w given = record { effect = e; solo = record { memory = h.memory; task = record { work = w; own = h.own; callers = [] } }; given = given }
  leaves e (c ∷ cs) w given = record { effect = e; solo = record { memory = h.memory; task = record { work = w; own = c; callers = cs } }; given = given }

  abbrev pub with_value : {A : Type 0} → Val A → List Item → (A → SourceStepped) → SourceStepped
  with_value (Gives v) items go = go v
  with_value (Raises x) items go = raises x items
  with_value Meaningless items go = means_nothing items

  -- ---- declarations (RM 3.3.1)

  abbrev pub declared_value : List Item → ObjectTree → Option ExprTree → Val Value
  declared_value items d (Some e) = and_then (evaluate items e) (passed (subtype_named h.program.scope d.subtype))
  declared_value items d None = Gives (initial h.program.scope (subtype_named h.program.scope d.subtype))

  abbrev pub declare : DeclarationTree → List Item → SourceStepped
  declare (LocalObject d) items =
      with_value (declared_value items d d.value) items (λ v. with_object (record {
        name = d.name.name;
        subtype = subtype_named h.program.scope d.subtype;
        value = v;
      }) items)
  declare d items = means_nothing items

  abbrev pub declare_parameter : Parameter → List Item → SourceStepped
  declare_parameter f items = with_object (record { name = f.name; subtype = f.subtype; value = initial h.program.scope f.subtype }) items

  -- ---- assignment (RM 5.2): the name of the target, then the value, its check, and storing

  abbrev pub assign : NameTree → ExprTree → List Item → SourceStepped
  assign name e items =
      with_value (target (place_of items) name.first.name name.selectors) items (λ x.
      with_value (and_then (evaluate items e) (passed x.subtype)) items (λ v. stores x v (Goes items)))

  -- ---- conditions (RM 5.3, 5.7)

  abbrev pub condition : List Item → ExprTree → Val Bool
  condition items e = and_then (evaluate items e) truth_of

  -- ---- loops (RM 5.5)

  abbrev pub while_turn : ExprTree → StmtTrees → List Item → SourceStepped
  while_turn e body items = with_value (condition items e) items (λ holds. goes (if holds then before body (RepeatsWhile e body ∷ items) else items))

  -- a turn of a loop over a range; the parameter is a constant, of which only the value matters in a run
  abbrev pub for_turn : List ℕ → Bool → (now last : ℤ) → StmtTrees → List Item → SourceStepped
  for_turn parameter reversed now last body items =
      with_object (record { name = parameter; subtype = turn_subtype now; value = values.Number now })
      (before body (RepeatsFor parameter reversed now last body ∷ items))

  abbrev pub for_range : Identifier → Bool → StmtTrees → List Item → Value → Value → SourceStepped
  for_range parameter reversed body items (values.Number a) (values.Number b) =
      if int_lt b a then goes items
      else (if reversed then for_turn parameter.name true b a body items else for_turn parameter.name false a b body items)
  for_range parameter reversed body items v w = means_nothing items

  abbrev pub begin_loop : IterationTree → StmtTrees → List Item → SourceStepped
  begin_loop Forever body items = goes (before body (Repeats body ∷ items))
  begin_loop (While e) body items = while_turn e body items
  begin_loop (For parameter reversed range) body items =
      with_value (evaluate items range.first) items (λ v. with_value (evaluate items range.last) items (λ w. for_range parameter reversed body items v w))

  -- the value of the next turn, one more or one less, as the operators give it (RM 4.5.3)
  abbrev pub next_number : Bool → ℤ → Val ℤ
  next_number reversed now = number_computed (if reversed then difference_of now (pos 1) else sum_of now (pos 1))

  -- the next turn, unless this was the last one
  abbrev pub next_turn : List ℕ → Bool → (now last : ℤ) → StmtTrees → List Item → SourceStepped
  next_turn parameter reversed now last body items =
      if are_same now last then goes items
      else with_value (next_number reversed now) items (λ next. for_turn parameter reversed next last body items)

  -- ---- calls (RM 6.4, 9.5.1, 9.5.3): the refusals in their order

  -- a body takes a frame
  abbrev pub if_frame_left : ℕ → List Item → SourceStepped → SourceStepped
  if_frame_left zero items go = raises_predefined StorageError items
  if_frame_left (suc n) items go = go

  abbrev pub run_body : Effect → Option ℕ → Procedure → Actuals → List Item → SourceStepped
  run_body e opened q a items = enters e (activation_of q a.values) (body_items q (EndsCall (results q.parameters) opened a.targets) items)

  abbrev pub plain_call : Procedure → Actuals → List Item → SourceStepped
  plain_call q a items = if_frame_left (frames_here items) items (run_body Quiet None q a items)

  abbrev pub unless_refused : Option Refusal → List Item → SourceStepped → SourceStepped
  unless_refused None items go = go
  unless_refused (Some r) items go = raises_predefined ProgramError items

  abbrev pub external_call : ℕ → Procedure → Actuals → List Item → SourceStepped
  external_call o q a items = unless_refused (call_refusal h.kernel h.task o) items
      (if_frame_left (frames_here items) items (run_body (Opens o) (Some o) q a items))

  -- with a closed barrier the call waits, where none does
  abbrev pub queue_call : ℕ → Procedure → Actuals → List Item → SourceStepped
  queue_call o q a items = if is_full h.kernel o then raises_predefined ProgramError items else works (Queues o) (Goes (Queued q a.values a.targets ∷ items))

  abbrev pub entry_call : ℕ → Procedure → Actuals → List Item → SourceStepped
  entry_call o q a items =
      if is_above_ceiling h.kernel h.task o then raises_predefined ProgramError items
      else if_frame_left (frames_here items) items (if is_open h.program h.memory o then run_body (Opens o) (Some o) q a items else queue_call o q a items)

  abbrev pub with_actuals_of : Callee → List Item → (Actuals → SourceStepped) → SourceStepped
  with_actuals_of c items go = with_value (actuals (place_of items) h.memory h.own c.procedure.parameters c.arguments) items go

  abbrev pub procedure_call : Callee → Option ℕ → List Item → SourceStepped
  procedure_call c None items = with_actuals_of c items (λ a. plain_call c.procedure a items)
  procedure_call c (Some o) items = with_actuals_of c items (λ a. external_call o c.procedure a items)

  -- inside an action nothing of an entry call is evaluated (H.5)
  abbrev pub entry_call_of : Callee → Option ℕ → List Item → SourceStepped
  entry_call_of c None items = means_nothing items
  entry_call_of c (Some o) items = if is_inside_any h.kernel h.task then raises_predefined ProgramError items else with_actuals_of c items
      (λ a. entry_call o c.procedure a items)

  abbrev pub call_of : Callee → Option ExprTree → List Item → SourceStepped
  call_of c (Some barrier) items = entry_call_of c c.procedure.object items
  call_of c None items = procedure_call c c.through items

  -- `Put (label, value)` of Control_IO writes a line
  abbrev pub put_line : List ℕ → List Item → Value → SourceStepped
  put_line label items (values.Number z) = works (Says label z) (Goes items)
  put_line label items v = means_nothing items

  abbrev pub put_call : Option Entity → SelectorTrees → List Item → SourceStepped
  put_call (Some Put) (MoreSelectors (Arguments (MoreArguments (Text label place) (MoreArguments (tree.Value e) NoArguments))) NoSelectors) items =
      with_value (evaluate items e) items (put_line label items)
  put_call entity s items = means_nothing items

  abbrev pub call_or_put : NameTree → Option Callee → List Item → SourceStepped
  call_or_put name (Some c) items = call_of c c.procedure.barrier items
  call_or_put name None items = put_call (named_entity h.program.scope name.first) name.selectors items

  -- ---- raising (RM 11.3)

  abbrev pub raise_number : Option ℕ → List Item → SourceStepped
  raise_number (Some x) items = raises x items
  raise_number None items = means_nothing items

  abbrev pub raise_named : Option Identifier → List Item → SourceStepped
  raise_named (Some name) items = raise_number (exception_number h.program name.name) items
  raise_named None items = raise_number (handled_exception items) items

  -- ---- `delay until` (RM 9.6), which raises inside an action before anything is evaluated (H.5)

  abbrev pub delay_until : List Item → Value → SourceStepped
  delay_until items (values.Number z) = works (Delays z) (Goes items)
  delay_until items v = means_nothing items

  -- ---- statements (RM 5.1)

  abbrev pub alternative : Option StmtTrees → List Item → SourceStepped
  alternative (Some body) items = goes (before body items)
  alternative None items = means_nothing items

  abbrev pub statement_step : StmtTree → List Item → SourceStepped
  statement_step (Null place) items = goes items
  statement_step (Assignment name e) items = assign name e items
  statement_step (Call name) items = call_or_put name (callee_by h.program h.own.within name.first name.selectors) items
  statement_step (Exit place None) items = goes (behind_loop items)
  statement_step (Exit place (Some e)) items = with_value (condition items e) items (λ holds. goes (if holds then behind_loop items else items))
  statement_step (Return place None) items = goes (end_of_body items)
  statement_step (Raise place name) items = raise_named name items
  statement_step (DelayUntil place e) items =
      if is_inside_any h.kernel h.task then raises_predefined ProgramError items else with_value (evaluate items e) items (delay_until items)
  statement_step (If place e body elsifs others) items =
      with_value (condition items e) items (λ holds. goes (if holds then before body items else otherwise place elsifs others items))
  statement_step (Case place e all) items = with_value (evaluate items e) items (λ v. alternative (alternative_for (place_of items) v all) items)
  statement_step (Loop place iteration body) items = begin_loop iteration body items
  statement_step (Block place declarations body hs) items = goes (map Declares declarations ++ Sequence body hs ∷ items)
  statement_step s items = means_nothing items

  -- main calls procedures of the package without parameters (RM 10.2)
  abbrev pub main_call : Option Procedure → List Item → SourceStepped
  main_call (Some q) items = plain_call q (record { values = []; targets = [] }) items
  main_call None items = means_nothing items

  abbrev pub main_step : MainStatement → List Item → SourceStepped
  main_step (main.Null place) items = goes items
  main_step (main.Call package_ procedure) items = main_call (procedure_here h.program None procedure.name) items

  -- ---- ends (RM 6.4, 9.5.1, 9.5.3)

  abbrev pub item_step : Item → List Item → SourceStepped
  item_step (Declares d) items = declare d items
  item_step (DeclaresParameter f) items = declare_parameter f items
  item_step (Sequence body hs) items = goes (before body (Handles hs ∷ items))
  item_step (Does s) items = statement_step s items
  item_step (DoesMain s) items = main_step s items
  item_step (Repeats body) items = goes (before body (Repeats body ∷ items))
  item_step (RepeatsWhile e body) items = while_turn e body items
  item_step (RepeatsFor parameter reversed now last body) items = next_turn parameter reversed now last body items
  item_step (Handles hs) items = goes items
  item_step (EndsHandler x) items = goes items
  item_step (EndsCall names opened xs) items = leaves Quiet h.callers (call_ended opened (results_in h.own.locals names) xs items) None
  item_step (EndsAction o completion) items = works (Ends (is_open h.program h.memory o)) (completed completion items)
  item_step (EndsServed o names completion) items =
      leaves (Ends (is_open h.program h.memory o)) h.callers (completed completion items) (Some (Results (results_in h.own.locals names)))
  item_step (Queued q vs xs) items = means_nothing items

  -- results are copied back from left to right, each checked just before it is stored (RM 6.4.1)
  abbrev pub copy_step : List Value → List Target → List Item → SourceStepped
  copy_step (v ∷ vs) (x ∷ xs) items = with_value (passed x.subtype v) items (λ w. stores x w (copying vs xs items))
  copy_step vs xs items = goes items

  -- ---- an exception on its way (RM 11.4)

  abbrev pub handled : ℕ → Option StmtTrees → List Item → SourceStepped
  handled x (Some statements) items = goes (before statements (EndsHandler x ∷ items))
  handled x None items = raises x items

  -- the first item is dropped; a queued caller's exception is handed to the caller
  abbrev pub raise_step : ℕ → Item → List Item → SourceStepped
  raise_step x (Handles hs) items = handled x (handler_for h.program x hs) items
  raise_step x (EndsCall names opened xs) items = leaves Quiet h.callers (call_raised x opened items) None
  raise_step x (EndsServed o names completion) items = leaves (Ends (is_open h.program h.memory o)) h.callers (completed completion items) (Some (Raised x))
  raise_step x i items = raises x items

  -- with no item left a task has come to its end (RM 9.3), or an exception is unhandled (RM 11.4.1)
  abbrev pub work_step : Work → SourceStepped
  work_step (Goes []) = works Finishes (Goes [])
  work_step (Goes (i ∷ items)) = item_step i items
  work_step (Copies vs xs items) = copy_step vs xs items
  work_step (Raising x []) = works (Dies x) (Goes [])
  work_step (Raising x (i ∷ items)) = raise_step x i items

-- ---- what the end of an action makes of two tasks (RM 9.5.3)

-- what is left to do once the served body has ended
abbrev pub completion_of : Work → Completion
completion_of (Goes items) = Completed [] []
completion_of (Copies vs xs items) = Completed vs xs
completion_of (Raising x items) = Pending x

abbrev pub items_of : Work → List Item
items_of (Goes items) = items
items_of (Copies vs xs items) = items
items_of (Raising x items) = items

abbrev pub serves : ℕ → Work → TaskWork → TaskWork
serves o (Goes (Queued q vs xs ∷ items)) t =
    record {
      work = Goes (body_items q (EndsServed o (results q.parameters) (completion_of t.work)) (items_of t.work));
      own = activation_of q vs;
      callers = t.own ∷ t.callers;
    }
serves o w t = t

-- the task t runs the entry's body for the caller u, with the caller's parameters, before it does what it has still to do
abbrev pub serving : ℕ → TaskWork → TaskWork → TaskWork
serving o u t = serves o u.work t

-- the caller goes on behind its entry call with the results, or raises the exception there
abbrev pub received : GivenToCaller → Work → Work
received (Results vs) (Goes (Queued q parameters xs ∷ items)) = copying vs xs items
received (Raised x) (Goes (Queued q parameters xs ∷ items)) = Raising x items
received g w = w

abbrev pub here_of : Program → List ScheduleLine → Kernel → ℕ → Solo Store TaskWork → Here
here_of p schedule k t s = record { program = p; schedule = schedule; kernel = k; task = t; memory = s.memory; own = s.task.own; callers = s.task.callers }

-- how tasks and handlers behave
abbrev pub program_behaviour : Program → List ScheduleLine → Behaviour Store TaskWork GivenToCaller
program_behaviour p schedule =
    record {
      act = λ k t s. restarted (initial_work p t) k t (work_step (here_of p schedule k t s) s.task.work);
      taken = λ o u. u;
      serving = λ o caller u t. serving o u t;
      receives = λ g u. record u { work = received g u.work };
    }
