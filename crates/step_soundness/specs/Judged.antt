-- Work that was judged: items each of which breaks no rule where it is worked, with what is visible there (RM 5, 6.4, 11.4).
use Rattle.std.specs.Prelude.{◌≡◌, ℕ, Bool, true, false, List, [], ◌∷◌, Option, Some, None, ⊤}
use Rattle.expr_soundness.specs.ada_tree.specs.declared.program.MainStatement.{MainStatement}
use Rattle.expr_soundness.specs.ada_tree.specs.declared.program.MainStatement.TheVariants as main
use Rattle.expr_soundness.specs.ada_tree.specs.StatementTree.{DeclarationTree, StmtTree, StmtTrees, HandlerTrees}
use Rattle.expr_soundness.specs.types.specs.declared.entity.Role.{Role}
use Rattle.expr_soundness.specs.types.specs.declared.entity.Role.TheVariants as role
use Rattle.expr_soundness.specs.types.specs.declared.entity.Subtype.{Subtype}
use Rattle.expr_soundness.specs.types.specs.Entities as entity
use Rattle.expr_soundness.specs.types.specs.Scopes.{Scope, form_at, is_visible, with_name}
use Rattle.expr_soundness.specs.types.specs.Values.{Value}
use Rattle.expr_soundness.specs.expr_rules.specs.Typing.{is_integers}
use Rattle.expr_soundness.specs.declaration_rules.specs.LocalRules.{local_faults, local_scope}
use Rattle.stmt_rules.specs.declared.around.Around.{Around}
use Rattle.stmt_rules.specs.SimpleRules.{condition_faults, is_function}
use Rattle.stmt_rules.specs.StatementRules.{handlers_faults, in_loop, stmt_faults, stmts_faults}
use Rattle.body_restrictions.specs.BodyRules as profile
use Rattle.expr_soundness.specs.SoundScopes.{IsKnown}
use Rattle.expr_soundness.specs.meaning.specs.Programs.{Parameter, Procedure, Program}
use Rattle.expr_soundness.specs.meaning.specs.Works.{Item, Declares, DeclaresParameter, Sequence, Does, DoesMain, Repeats, RepeatsWhile, RepeatsFor, Handles, EndsHandler, EndsCall, EndsAction, EndsServed, Queued, Completion, Completed, Pending, Target, Work, Goes, Copies, Raising, Activation}
use Rattle.expr_soundness.specs.meaning.specs.Calls.{procedure_here}
use Rattle.step_soundness.specs.Objects.{AreOf, AreTargets, IsException}
use Rattle.step_soundness.specs.Fitting.{Narrows, entity_named, entry_of, is_result, result_types, taken_types}
use Rattle.step_soundness.specs.Opened.{IsHeld, opened_in}

-- an activation that waits for the end of a call, and what is visible where it goes on
pub record Waiting : Type 0 where
  pub scope : Scope
  pub activation : Activation

-- ---- what breaks no rule, and no restriction of the profile

abbrev pub IsFaultless : Scope → Around → StmtTree → Type 0
IsFaultless s a x = (stmt_faults s a x ≡ []) × (profile.stmt_faults x ≡ [])

abbrev pub AreFaultless : Scope → Around → StmtTrees → Type 0
AreFaultless s a body = (stmts_faults s a body ≡ []) × (profile.stmts_faults body ≡ [])

abbrev pub AreFaultlessHandlers : Scope → Around → HandlerTrees → Type 0
AreFaultlessHandlers s a all = (handlers_faults s a all ≡ []) × (profile.handlers_faults all ≡ [])

abbrev pub IsLegalLocal : Scope → DeclarationTree → Type 0
IsLegalLocal s d = (local_faults s d ≡ []) × (profile.local_faults d ≡ [])

-- ---- names that the items add

-- an `out` parameter, which becomes visible as an object of its subtype
pub record IsNewParameter (s : Scope) (f : Parameter) : Type 0 where
  pub unseen : is_visible s f.name ≡ false
  pub known : IsKnown s f.subtype

abbrev pub parameter_scope : Scope → Parameter → Scope
parameter_scope s f = with_name s f.name (entity.Object role.Out f.subtype)

-- a loop parameter of this subtype, of an integer type
pub record IsLoopParameter (s : Scope) (name : List ℕ) (t : Subtype) : Type 0 where
  pub unseen : is_visible s name ≡ false
  pub integers : is_integers (form_at s t.type_number) ≡ true

abbrev pub turn_scope : Scope → (parameter : List ℕ) → Subtype → Scope
turn_scope s parameter t = with_name s parameter (entity.Object role.LoopParameter t)

-- ---- ends of bodies

-- nothing is left to `exit`, nor to `raise` again; no function's body is worked by items
pub record IsPlain (a : Around) : Type 0 where
  pub loop : a.in_loop ≡ false
  pub handler : a.in_handler ≡ false
  pub kind : is_function a.kind ≡ false

-- the names of parameters that are copied back, which are of these types
abbrev pub AreResults : Scope → List ℕ → List (List ℕ) → Type 0
AreResults s [] [] = ⊤
AreResults s (n ∷ ns) (name ∷ names) =
    ((r : Role) × (t : Subtype) × (entity_named s name ≡ Some (entity.Object r t)) × (is_result r ≡ true) × (t.type_number ≡ n)) × AreResults s ns names
AreResults s ns names = ⊥

module _ (program : Program) where
  -- what comes after the end of an action: results with their targets, or an exception
  abbrev pub IsCompletion : Activation → Completion → Type 0
  IsCompletion a (Completed vs xs) = (types : List ℕ) × AreOf program.scope types vs × AreTargets program a types xs
  IsCompletion a (Pending x) = IsException program x

  -- main calls procedures of the package without parameters (RM 10.2)
  abbrev pub IsMainStatement : MainStatement → Type 0
  IsMainStatement (main.Null place) = ⊤
  IsMainStatement (main.Call package_ name) = (q : Procedure) × (procedure_here program None name.name ≡ Some q) × (q.parameters ≡ [])

  -- ---- items that are under way

  -- Each item, from the first on, where the scope is what is visible at it, and `outer` the activations that wait behind. A name goes out of sight where a
  -- block or a loop ends, so what is visible at the next item may be less (`Narrows`). A loop and a handler are left behind their item, so what stands around
  -- may change there.
  abbrev pub Judged : Scope → (outer : List Waiting) → Around → List Item → Type 0
  Judged s [] a [] = IsPlain a
  Judged s (w ∷ outer) a [] = ⊥
  Judged s outer a (Does x ∷ items) = IsFaultless s a x × (later : Scope) × Narrows program s later × Judged later outer a items
  Judged s outer a (DoesMain x ∷ items) = IsMainStatement x × Judged s outer a items
  Judged s outer a (Repeats body ∷ items) = AreFaultless s (in_loop a) body × (later : Scope) × (b : Bool) × Narrows program s later
      × Judged later outer (record a { in_loop = b }) items
  Judged s outer a (RepeatsWhile e body ∷ items) =
      (condition_faults s e ≡ []) × AreFaultless s (in_loop a) body × (later : Scope) × (b : Bool) × Narrows program s later
      × Judged later outer (record a { in_loop = b }) items
  Judged s outer a (RepeatsFor parameter reversed now last body ∷ items) =
      (outside : Scope) × (t : Subtype) × Narrows program s outside × IsLoopParameter outside parameter t
      × AreFaultless (turn_scope outside parameter t) (in_loop a) body
      × Narrows program (turn_scope outside parameter t) outside × (later : Scope) × (b : Bool) × Narrows program outside later
      × Judged later outer (record a { in_loop = b }) items
  Judged s outer a (Handles all ∷ items) = AreFaultlessHandlers s a all × (later : Scope) × Narrows program s later × Judged later outer a items
  Judged s outer a (EndsHandler x ∷ items) = IsException program x × (later : Scope) × (b : Bool) × Narrows program s later
      × Judged later outer (record a { in_handler = b }) items
  Judged s [] a (EndsCall names opened xs ∷ items) = ⊥
  Judged s (w ∷ outer) a (EndsCall names opened xs ∷ items) =
      IsPlain a × (types : List ℕ) × AreResults s types names × AreTargets program w.activation types xs × IsHeld w.activation.within (opened_in items)
      × (around : Around)
      × Judged w.scope outer around items
  Judged s [] a (EndsServed o names completion ∷ items) = ⊥
  Judged s (w ∷ outer) a (EndsServed o names completion ∷ items) =
      IsPlain a × (q : Procedure) × (entry_of program.procedures o ≡ Some q) × AreResults s (result_types q.parameters) names
      × IsCompletion w.activation completion
      × IsHeld w.activation.within (opened_in items) × (around : Around) × Judged w.scope outer around items
  -- a body or block that has not begun, the end of an action and a queued call stand in front of all others
  Judged s outer a (i ∷ items) = ⊥

  -- what an exception asks of the items: those that have not begun are dropped, and the others are judged where fewer names may be visible
  abbrev pub Leaves : Scope → (outer : List Waiting) → Around → List Item → Type 0
  Leaves s outer a (Declares d ∷ items) = Leaves s outer a items
  Leaves s outer a (DeclaresParameter f ∷ items) = Leaves s outer a items
  Leaves s outer a (Sequence body all ∷ items) = Leaves s outer a items
  Leaves s outer a items = (later : Scope) × Narrows program s later × Judged later outer a items

  -- a body or block that has not begun: its parameters, its declarations, its statements with their handlers. The body sees its formals in the order of the
  -- text, so behind an `out` parameter the same names may be visible in another order.
  abbrev pub Begins : Scope → (outer : List Waiting) → Around → List Item → Type 0
  Begins s outer a (Declares d ∷ items) = IsLegalLocal s d × Begins (local_scope s d) outer a items × Leaves s outer a items
  Begins s outer a (DeclaresParameter f ∷ items) =
      IsNewParameter s f × (later : Scope) × Narrows program (parameter_scope s f) later × Begins later outer a items
  Begins s outer a (Sequence body all ∷ items) = AreFaultless s a body × AreFaultlessHandlers s a all × (later : Scope) × Narrows program s later
      × Judged later outer a items
  Begins s outer a items = Judged s outer a items

  -- ---- work

  -- the work of a task that does not wait in an entry call: with this activation running
  abbrev pub IsReady : Activation → Scope → (outer : List Waiting) → Around → List Item → Type 0
  IsReady own s outer a (EndsAction o completion ∷ items) = IsCompletion own completion × IsHeld own.within (opened_in items) × Judged s outer a items
  IsReady own s outer a items = Begins s outer a items

  abbrev pub IsWork : Activation → Scope → (outer : List Waiting) → Around → Work → Type 0
  IsWork own s outer a (Goes items) = IsReady own s outer a items
  IsWork own s outer a (Copies vs xs items) = (types : List ℕ) × AreOf program.scope types vs × AreTargets program own types xs × Judged s outer a items
  IsWork own s outer a (Raising x items) = IsException program x × Leaves s outer a items

  -- a call that waits in the entry queue of the object, or is being served (RM 9.5.3)
  pub record IsQueuedCall (object : ℕ) (own : Activation) (q : Procedure) (vs : List Value) (xs : List Target) : Type 0 where
    pub owner : q.object ≡ Some object
    pub only : entry_of program.procedures object ≡ Some q
    pub given : AreOf program.scope (taken_types q.parameters) vs
    pub targets : AreTargets program own (result_types q.parameters) xs

  abbrev pub IsQueuedWork : (object : ℕ) → Activation → Scope → (outer : List Waiting) → Around → Work → Type 0
  IsQueuedWork object own s outer a (Goes (Queued q vs xs ∷ items)) = IsQueuedCall object own q vs xs × Judged s outer a items
  IsQueuedWork object own s outer a w = ⊥

  -- the work of a task, which waits in an entry call of this object, or in none
  abbrev pub IsWorkOf : (waits : Option ℕ) → Activation → Scope → (outer : List Waiting) → Around → Work → Type 0
  IsWorkOf None own s outer a w = IsWork own s outer a w
  IsWorkOf (Some o) own s outer a w = IsQueuedWork o own s outer a w
