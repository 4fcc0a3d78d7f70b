-- How a task goes on behind a step: the work after it, where store and activations stay, and where a value or an exception comes.
use Rattle.std.proofs.Common.{◌≡◌, ℕ, List, [], ◌∷◌, map, Bool, true, false, inl, Option, None, cond, refl, sym, subst}
use Rattle.expr_soundness.specs.base.specs.Exceptions.{number_of}
use Rattle.expr_soundness.specs.base.specs.declared.exceptions.PredefinedException.{PredefinedException}
use Rattle.expr_soundness.specs.kernel.specs.Effects.{Effect, Quiet}
use Rattle.expr_soundness.specs.ada_tree.specs.StatementTree.{StmtTrees, NoStmts, MoreStmts}
use Rattle.expr_soundness.specs.types.specs.Scopes.{Scope}
use Rattle.expr_soundness.specs.types.specs.Evaluations.{Val, Gives, Raises, Meaningless, and_then}
use Rattle.expr_soundness.specs.types.specs.Places.{Place}
use Rattle.stmt_rules.specs.declared.around.Around.{Around}
use Rattle.stmt_rules.specs.StatementRules.{stmt_faults, stmts_faults}
use Rattle.body_restrictions.specs.BodyRules as profile
use Rattle.expr_soundness.specs.expr_rules.proofs.TypedLaw.{back_empty, front_empty}
use Rattle.expr_soundness.specs.Agreeing.{Agrees}
use Rattle.expr_soundness.specs.Answers.{FunctionsAreSound}
use Rattle.expr_soundness.specs.meaning.specs.Programs.{Program}
use Rattle.expr_soundness.specs.meaning.specs.Works.{Item, Declares, DeclaresParameter, Sequence, Does, DoesMain, Repeats, RepeatsWhile, RepeatsFor, Handles, EndsHandler, EndsCall, EndsAction, EndsServed, Queued, Work, Goes, Raising, Activation, Store}
use Rattle.expr_soundness.specs.meaning.specs.SourceSteps.{Here, SourceStepped, before, goes, items_of, place_of, raises, with_value, works}
use Rattle.step_soundness.specs.Objects.{GivesOrRaises, IsException, IsPredefinedException}
use Rattle.step_soundness.specs.Fitting.{Narrows}
use Rattle.step_soundness.specs.Opened.{IsHeld, Opened, opened_in}
use Rattle.step_soundness.specs.Judged.{AreFaultless, IsReady, IsWorkOf, Judged, Leaves, Waiting}
use Rattle.step_soundness.specs.Holding.{Accounts, AllWaitingFit, FitsActivation, IsSoundServer, IsSoundStep, IsSoundStore, KeepsStore, WhenEnds, waiting_activation, waits_after}
use Rattle.step_soundness.proofs.Raising.{exception_predefined}
use Rattle.step_soundness.proofs.Sights.{narrows_same}

-- ---- what comes

pub comes_then : {A B : Type 0} (P : A → Type 0) (Q : B → Type 0) (v : Val A) (go : A → Val B) → GivesOrRaises P v → ((a : A) → P a → GivesOrRaises Q (go a)) → GivesOrRaises Q (and_then v go)
comes_then P Q (Gives a) go h f = f a h
comes_then P Q (Raises x) go h f = h
comes_then P Q Meaningless go h f = absurd h

pub comes_weaker : {A : Type 0} (P Q : A → Type 0) (v : Val A) → GivesOrRaises P v → ((a : A) → P a → Q a) → GivesOrRaises Q v
comes_weaker P Q (Gives a) h f = f a h
comes_weaker P Q (Raises x) h f = h
comes_weaker P Q Meaningless h f = absurd h

-- ---- items behind

-- the items go on where fewer names may be visible
abbrev pub Behind : Program → Scope → List Waiting → Around → List Item → Type 0
Behind program s outer a items = (later : Scope) × Narrows program s later × Judged program later outer a items

pub leaves_of : (program : Program) (s : Scope) (outer : List Waiting) (a : Around) (items : List Item) → Behind program s outer a items → Leaves program s outer a items
leaves_of program s outer a [] b = b
leaves_of program s outer a (Declares d ∷ items) b = absurd b.2
leaves_of program s outer a (DeclaresParameter f ∷ items) b = absurd b.2
leaves_of program s outer a (Sequence body all ∷ items) b = absurd b.2
leaves_of program s outer a (Does x ∷ items) b = b
leaves_of program s outer a (DoesMain x ∷ items) b = b
leaves_of program s outer a (Repeats body ∷ items) b = b
leaves_of program s outer a (RepeatsWhile e body ∷ items) b = b
leaves_of program s outer a (RepeatsFor parameter reversed now last body ∷ items) b = b
leaves_of program s outer a (Handles all ∷ items) b = b
leaves_of program s outer a (EndsHandler x ∷ items) b = b
leaves_of program s outer a (EndsCall names opened xs ∷ items) b = b
leaves_of program s outer a (EndsAction o completion ∷ items) b = b
leaves_of program s outer a (EndsServed o names completion ∷ items) b = b
leaves_of program s outer a (Queued q vs xs ∷ items) b = b

pub ready_of : (program : Program) (own : Activation) (s : Scope) (outer : List Waiting) (a : Around) (items : List Item) → Judged program s outer a items → IsReady program own s outer a items
ready_of program own s outer a [] j = j
ready_of program own s outer a (Declares d ∷ items) j = absurd j
ready_of program own s outer a (DeclaresParameter f ∷ items) j = absurd j
ready_of program own s outer a (Sequence body all ∷ items) j = absurd j
ready_of program own s outer a (Does x ∷ items) j = j
ready_of program own s outer a (DoesMain x ∷ items) j = j
ready_of program own s outer a (Repeats body ∷ items) j = j
ready_of program own s outer a (RepeatsWhile e body ∷ items) j = j
ready_of program own s outer a (RepeatsFor parameter reversed now last body ∷ items) j = j
ready_of program own s outer a (Handles all ∷ items) j = j
ready_of program own s outer a (EndsHandler x ∷ items) j = j
ready_of program own s outer a (EndsCall names opened xs ∷ items) j = j
ready_of program own s outer a (EndsAction o completion ∷ items) j = absurd j
ready_of program own s outer a (EndsServed o names completion ∷ items) j = j
ready_of program own s outer a (Queued q vs xs ∷ items) j = absurd j

-- statements in front
pub before_judged : (program : Program) (s : Scope) (outer : List Waiting) (a : Around) (body : StmtTrees) (items : List Item) → AreFaultless s a body → Behind program s outer a items
    → Behind program s outer a (before body items)
before_judged program s outer a NoStmts items legal b = b
before_judged program s outer a (MoreStmts x rest) items legal b =
    let behind =
    before_judged program s outer a rest items
    (back_empty (stmt_faults s a x) (stmts_faults s a rest) legal.0, back_empty (profile.stmt_faults x) (profile.stmts_faults rest) legal.1)
    b
    in (
      s,
      narrows_same program s,
      (
        (
          front_empty (stmt_faults s a x) (stmts_faults s a rest) legal.0,
          front_empty (profile.stmt_faults x) (profile.stmts_faults rest) legal.1,
        ),
        behind.0,
        behind.1,
        behind.2,
      ),
    )

pub opened_before : (body : StmtTrees) (items : List Item) → opened_in (before body items) ≡ opened_in items
opened_before NoStmts items = refl
opened_before (MoreStmts x rest) items = opened_before rest items

-- ---- the task where it stands

-- store and activations of the task that takes a step, and what is visible where it stands
pub record Current (h : Here) (s : Scope) (outer : List Waiting) : Type 0 where
  pub store : IsSoundStore h.program h.memory
  pub own : FitsActivation h.program h.memory s h.own
  pub callers : h.callers ≡ map waiting_activation outer
  pub all : AllWaitingFit h.program h.memory outer

-- and the items behind the first one
pub record At (h : Here) (s : Scope) (outer : List Waiting) (a : Around) (items : List Item) : Type 0 where
  pub current : Current h s outer
  pub held : IsHeld h.own.within (opened_in items)
  pub behind : Behind h.program s outer a items

pub same_store : (program : Program) (within : Option ℕ) (m : Store) → IsSoundStore program m → KeepsStore program within m m
same_store program within m sound =
    record { agreement = λ s p agrees. agrees; sound = sound; same = record { variables = λ name. refl; components = λ o name. refl }; own = λ o. inl refl }

module _ (h : Here) (s : Scope) (outer : List Waiting) where
  pub agrees_here : Current h s outer → (items : List Item) → Agrees s (place_of h items)
  agrees_here c items = (c.own.fits (place_of h items)).agrees

  pub functions_here : Current h s outer → (items : List Item) → FunctionsAreSound (place_of h items)
  functions_here c items = c.store.functions (place_of h items)

  -- the step leaves store and activations as they are
  pub worked : Current h s outer → (a : Around) (e : Effect) (w : Work) (opened : List Opened) (later : Scope) → Narrows h.program s later
      → IsWorkOf h.program (waits_after e) h.own later outer a w → Accounts h e h.memory opened (opened_in (items_of w)) None → IsHeld h.own.within (opened_in (items_of w))
      → WhenEnds e (IsSoundServer h.program h.memory (record { work = w; own = h.own; callers = h.callers })) → IsSoundStep h opened (works h e w)
  worked c a e w opened later narrows work accounts held server =
      record {
        effect = accounts;
        store = same_store h.program h.own.within h.memory c.store;
        task = record {
          scope = later;
          outer = outer;
          around = a;
          work = work;
          own = record { fits = λ p. narrows (let q : Place = inside_of p in q) (c.own.fits p); locals = c.own.locals };
          callers = c.callers;
          all = c.all;
          held = held;
        };
        server = server;
      }
    where
      inside_of : Place → Place
      inside_of p =
          record p {
            scope = h.program.scope;
            functions = h.program.functions;
            variables = h.memory.variables;
            components = h.memory.components;
            locals = h.own.locals;
            within = h.own.within;
          }

  -- it goes on with items that open the same actions
  pub went : Current h s outer → (a : Around) (items next : List Item) → IsHeld h.own.within (opened_in items) → Behind h.program s outer a next → opened_in next ≡ opened_in items
      → IsSoundStep h (opened_in items) (goes h next)
  went c a items next held b same =
      worked c a Quiet (Goes next) (opened_in items) b.0 b.1 (ready_of h.program h.own b.0 outer a next b.2) (same, refl) (subst (IsHeld h.own.within) (sym same) held) tt

  pub raised : Current h s outer → (a : Around) (items : List Item) (x : ℕ) → IsHeld h.own.within (opened_in items) → IsException h.program x → Leaves h.program s outer a items
      → IsSoundStep h (opened_in items) (raises h x items)
  raised c a items x held known leaves = worked c a Quiet (Raising x items) (opened_in items) s (narrows_same h.program s) (known, leaves) (refl, refl) held tt

  -- ... of a predefined one
  pub raised_predefined : Current h s outer → (a : Around) (items : List Item) (x : ℕ) → IsHeld h.own.within (opened_in items) → IsPredefinedException x
      → Leaves h.program s outer a items
      → IsSoundStep h (opened_in items) (raises h x items)
  raised_predefined c a items x held known leaves = raised c a items x held (known.0, inl known.1) leaves

  -- ---- behind a statement

  module _ (a : Around) (items : List Item) where
    pub at_raised : At h s outer a items → (x : ℕ) → IsException h.program x → IsSoundStep h (opened_in items) (raises h x items)
    at_raised c x known = raised c.current a items x c.held known (leaves_of h.program s outer a items c.behind)

    pub at_refused : At h s outer a items → (x : PredefinedException) → IsSoundStep h (opened_in items) (raises h (number_of x) items)
    at_refused c x = let known = exception_predefined x in at_raised c (number_of x) (known.0, inl known.1)

    pub at_goes : At h s outer a items → IsSoundStep h (opened_in items) (goes h items)
    at_goes c = went c.current a items items c.held c.behind refl

    pub at_before : At h s outer a items → (body : StmtTrees) → AreFaultless s a body → IsSoundStep h (opened_in items) (goes h (before body items))
    at_before c body legal = went c.current a items (before body items) c.held (before_judged h.program s outer a body items legal c.behind) (opened_before body items)

    pub at_value : {A : Type 0} (P : A → Type 0) → At h s outer a items → (v : Val A) (go : A → SourceStepped) → GivesOrRaises P v → ((x : A) → P x → IsSoundStep h (opened_in items) (go x))
        → IsSoundStep h (opened_in items) (with_value h v items go)
    at_value P c (Gives x) go comes f = f x comes
    at_value P c (Raises x) go comes f = at_raised c x (comes.0, inl comes.1)
    at_value P c Meaningless go comes f = absurd comes

    pub at_chosen : (b : Bool) (x y : SourceStepped) → (b ≡ true → IsSoundStep h (opened_in items) x) → (b ≡ false → IsSoundStep h (opened_in items) y) → IsSoundStep h (opened_in items) (cond b x y)
    at_chosen true x y f g = f refl
    at_chosen false x y f g = g refl
