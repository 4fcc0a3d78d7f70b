-- What holds of the store and of each task between the steps of an accepted program, and what each step does to it.
use Rattle.std.specs.Prelude.{◌≡◌, ◌<◌, ◌⊎◌, ℕ, false, List, [], ◌∷◌, map, Option, Some, None, ⊤}
use Rattle.expr_soundness.specs.kernel.specs.Effects.{Effect, Quiet, Says, Delays, Opens, Views, Queues, Ends, Finishes, Dies, Breaks, call_refusal, is_above_ceiling, is_full, is_inside_any}
use Rattle.expr_soundness.specs.types.specs.Scopes.{Scope}
use Rattle.expr_soundness.specs.types.specs.Values.{Value}
use Rattle.expr_soundness.specs.types.specs.Places.{Place}
use Rattle.stmt_rules.specs.declared.around.Around.{Around}
use Rattle.expr_soundness.specs.Agreeing.{Agrees}
use Rattle.expr_soundness.specs.Answers.{FunctionsAreSound}
use Rattle.expr_soundness.specs.meaning.specs.Programs.{Procedure, Program}
use Rattle.expr_soundness.specs.meaning.specs.Works.{Item, Activation, GivenToCaller, Results, Raised, Store, TaskWork}
use Rattle.expr_soundness.specs.meaning.specs.Calls.{activation_of, body_items, is_open, procedure_among, results}
use Rattle.expr_soundness.specs.meaning.specs.SourceSteps.{Here, SourceStepped, completion_of, items_of}
use Rattle.step_soundness.specs.Objects.{AreOf, AreSoundObjects, IsException, first_store, subtype_in}
use Rattle.step_soundness.specs.Fitting.{FitsScope, entry_of, result_types, taken_types}
use Rattle.step_soundness.specs.Opened.{ForCall, ForCaller, IsHeld, Opened, object_opened, opened_in}
use Rattle.step_soundness.specs.Judged.{AreResults, Begins, IsCompletion, IsPlain, IsWorkOf, Judged, Waiting}

-- ---- where a task evaluates

-- a place with the program's names and functions, and the objects of this store
abbrev pub seen : Program → Store → Place → Place
seen program m p = record p { scope = program.scope; functions = program.functions; variables = m.variables; components = m.components }

-- and with the objects of this activation
abbrev pub inside : Program → Store → Activation → Place → Place
inside program m a p =
    record p { scope = program.scope; functions = program.functions; variables = m.variables; components = m.components; locals = a.locals; within = a.within }

abbrev pub FitsIn : Program → Store → Scope → Activation → Type 0
FitsIn program m s a = (p : Place) → FitsScope program s (inside program m a p)

-- ---- bodies of procedures and entries

-- The end of the body is judged, wherever its statements end: the names of what is copied back are visible there.
abbrev pub EndsBody : Program → Procedure → List Waiting → (end : Item) → List Item → Type 0
EndsBody program q outer end items = (s : Scope) (a : Around) → IsPlain a → AreResults s (result_types q.parameters) (results q.parameters)
    → Judged program s outer a (end ∷ items)

-- The body, called with these values of its parameters, is judged, whatever comes behind its end.
pub record IsSoundBody (program : Program) (m : Store) (q : Procedure) (vs : List Value) : Type 0 where
  pub scope : Scope
  pub around : Around
  pub fits : FitsIn program m scope (activation_of q vs)
  pub items : (outer : List Waiting) (end : Item) (items : List Item) → EndsBody program q outer end items
      → Begins program scope outer around (body_items q end items)

abbrev pub IsSoundProcedure : Program → Store → Procedure → Type 0
IsSoundProcedure program m q = (vs : List Value) → AreOf program.scope (taken_types q.parameters) vs → IsSoundBody program m q vs

-- ---- the store

pub record SameObjects (before after : Store) : Type 0 where
  pub variables : (name : List ℕ) → subtype_in after.variables name ≡ subtype_in before.variables name
  pub components : (o : ℕ) (name : List ℕ) → subtype_in (after.components o) name ≡ subtype_in (before.components o) name

pub record IsSoundStore (program : Program) (m : Store) : Type 0 where
  pub functions : (p : Place) → FunctionsAreSound (seen program m p)
  pub procedures : (owner : Option ℕ) (name : List ℕ) (q : Procedure) → procedure_among program.procedures owner name ≡ Some q → IsSoundProcedure program m q
  pub entries : (o : ℕ) (q : Procedure) → entry_of program.procedures o ≡ Some q → IsSoundProcedure program m q
  pub variables : AreSoundObjects program.scope m.variables
  pub components : (o : ℕ) → AreSoundObjects program.scope (m.components o)
  pub same : SameObjects (first_store program) m

-- ---- tasks

abbrev pub waiting_activation : Waiting → Activation
waiting_activation w = w.activation

pub record FitsActivation (program : Program) (m : Store) (s : Scope) (a : Activation) : Type 0 where
  pub fits : FitsIn program m s a
  pub locals : AreSoundObjects program.scope a.locals

abbrev pub AllWaitingFit : Program → Store → List Waiting → Type 0
AllWaitingFit program m [] = ⊤
AllWaitingFit program m (w ∷ outer) = FitsActivation program m w.scope w.activation × AllWaitingFit program m outer

-- the task's work is judged, and all its activations fit what is visible where they go on
pub record IsSoundTask (program : Program) (m : Store) (waits : Option ℕ) (t : TaskWork) : Type 0 where
  pub scope : Scope
  pub outer : List Waiting
  pub around : Around
  pub work : IsWorkOf program waits t.own scope outer around t.work
  pub own : FitsActivation program m scope t.own
  pub callers : t.callers ≡ map waiting_activation outer
  pub all : AllWaitingFit program m outer
  pub held : IsHeld t.own.within (opened_in (items_of t.work))

-- A task that has just ended an action, and may have to run an entry body for a caller before it goes on: what it has still to do fits (RM 9.5.3).
pub record IsSoundServer (program : Program) (m : Store) (t : TaskWork) : Type 0 where
  pub scope : Scope
  pub outer : List Waiting
  pub around : Around
  pub completion : IsCompletion program t.own (completion_of t.work)
  pub items : Judged program scope outer around (items_of t.work)
  pub own : FitsActivation program m scope t.own
  pub callers : t.callers ≡ map waiting_activation outer
  pub all : AllWaitingFit program m outer
  pub held : IsHeld t.own.within (opened_in (items_of t.work))

-- ---- steps

-- what agrees with the one store agrees with the other, and a component changes only under a body of its object
pub record KeepsStore (program : Program) (within : Option ℕ) (before after : Store) : Type 0 where
  pub agreement : (s : Scope) (p : Place) → Agrees s (seen program before p) → Agrees s (seen program after p)
  pub sound : IsSoundStore program after
  pub same : SameObjects before after
  pub own : (o : ℕ) → (after.components o ≡ before.components o) ⊎ (within ≡ Some o)

-- what the caller is given: values of the results of the object's entry, or an exception
abbrev pub IsGiven : Program → (object : ℕ) → GivenToCaller → Type 0
IsGiven program o (Results vs) = (q : Procedure) × (entry_of program.procedures o ≡ Some q) × AreOf program.scope (result_types q.parameters) vs
IsGiven program o (Raised x) = IsException program x

-- a caller is given something where its body ends, and only there
abbrev pub IsGivenAt : Program → Opened → Option GivenToCaller → Type 0
IsGivenAt program (ForCall o) given = given ≡ None
IsGivenAt program (ForCaller o) given = (g : GivenToCaller) × (given ≡ Some g) × IsGiven program o g

-- What an effect comes to in the open actions, and the refusals that were passed. No task dies of exception 0. Barriers are told by the store after the step.
abbrev pub Accounts : Here → Effect → (later : Store) → (before after : List Opened) → Option GivenToCaller → Type 0
Accounts h Quiet later before after given = (after ≡ before) × (given ≡ None)
Accounts h (Says label value) later before after given = (after ≡ before) × (given ≡ None)
Accounts h (Delays until) later before after given = (after ≡ before) × (given ≡ None) × (is_inside_any h.kernel h.task ≡ false)
Accounts h (Opens o) later before after given = (after ≡ ForCall o ∷ before) × (given ≡ None) × (call_refusal h.kernel h.task o ≡ None)
Accounts h (Views o) later before after given = ⊥
Accounts h (Queues o) later before after given =
    (after ≡ before) × (given ≡ None) × (is_inside_any h.kernel h.task ≡ false) × (is_above_ceiling h.kernel h.task o ≡ false)
    × (is_open h.program later o ≡ false) × (is_full h.kernel o ≡ false)
Accounts h (Ends is_open_now) later before after given =
    (a : Opened) × (before ≡ a ∷ after) × (is_open_now ≡ is_open h.program later (object_opened a)) × IsGivenAt h.program a given
Accounts h Finishes later before after given = (before ≡ []) × (after ≡ []) × (given ≡ None)
Accounts h (Dies x) later before after given = (before ≡ []) × (after ≡ []) × (given ≡ None) × (0 < x)
Accounts h Breaks later before after given = ⊥

-- the entry call in which the task waits after the effect
abbrev pub waits_after : Effect → Option ℕ
waits_after (Queues o) = Some o
waits_after e = None

-- what is asked only where an action ends
abbrev pub WhenEnds : Effect → Type 0 → Type 0
WhenEnds (Ends is_open_now) P = P
WhenEnds e P = ⊤

-- a step that has a meaning, after which all holds again
pub record IsSoundStep (h : Here) (before : List Opened) (x : SourceStepped) : Type 0 where
  pub effect : Accounts h x.effect x.solo.memory before (opened_in (items_of x.solo.task.work)) x.given
  pub store : KeepsStore h.program h.own.within h.memory x.solo.memory
  pub task : IsSoundTask h.program x.solo.memory (waits_after x.effect) x.solo.task
  pub server : WhenEnds x.effect (IsSoundServer h.program x.solo.memory x.solo.task)
