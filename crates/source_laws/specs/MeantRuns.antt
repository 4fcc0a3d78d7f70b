-- That what the steps of a run take is there. The meaning of programs (meaning/specs) passes over what isn't there: a value without its target, a parameter
-- without its value, a barrier that is neither True nor False, a caller that doesn't wait, an `exit` outside of loops. In a world that a run of an accepted
-- program
-- comes to, all is there.
use Rattle.std.specs.Prelude.{◌≡◌, ℕ, Bool, List, [], ◌∷◌, length, Some, ⊤}
use Rattle.base.specs.declared.schedule.ScheduleLine.{ScheduleLine}
use Rattle.ada_tree.specs.ExpressionTree.{ArgumentTrees, ExprTree}
use Rattle.ada_tree.specs.ProgramTree.{ProgramTree}
use Rattle.ada_tree.specs.StatementTree.{Assignment, Exit}
use Rattle.types.specs.Evaluating.{val}
use Rattle.types.specs.Evaluations.{Gives}
use Rattle.types.specs.Places.{Place}
use Rattle.types.specs.Values.{Truth, Value}
use Rattle.legality.specs.ProgramRules.{IsLegal}
use Rattle.program_soundness.specs.ravenscar.specs.ProgramRules.{IsRestricted}
use Rattle.expr_soundness.specs.meaning.specs.Calls.{Actuals, actuals, barrier_of, barrier_place, bound, results, results_in}
use Rattle.expr_soundness.specs.meaning.specs.Programs.{Parameter, Procedure, Program, program_of}
use Rattle.expr_soundness.specs.meaning.specs.Source.{SourceWorld, source}
use Rattle.expr_soundness.specs.meaning.specs.SourceSteps.{items_of}
use Rattle.expr_soundness.specs.meaning.specs.Targets.{target, target_value}
use Rattle.expr_soundness.specs.meaning.specs.Works.{Activation, Completed, Completion, Copies, Does, EndsAction, EndsCall, EndsServed, Goes, Item, Pending, Queued, Raising, Repeats, RepeatsFor, RepeatsWhile, Store, Target, Work}
use Rattle.program_soundness.specs.SoundWorlds.{awaited}
use Rattle.program_soundness.specs.step_soundness.specs.Fitting.{entry_of, taken_types}
use Rattle.program_soundness.specs.step_soundness.specs.Holding.{inside}

-- ---- actual parameters

-- Actual parameters that are evaluated have a value for each parameter that is copied in, and a target for each that is copied back. So the body begins with
-- each of its parameters (`with_first`).
pub record FitParameters (fs : List Parameter) (x : Actuals) : Type 0 where
  pub values : length x.values ≡ length (taken_types fs)
  pub targets : length x.targets ≡ length (results fs)
  pub bound_ : length (bound fs x.values) ≡ length x.values

abbrev pub ActualsFit : Type 0
ActualsFit = (place : Place) (m : Store) (a : Activation) (fs : List Parameter) (xs : ArgumentTrees) (x : Actuals) → actuals place m a fs xs ≡ Gives x
    → FitParameters fs x

-- ---- what a task holds

-- a loop that `exit` leaves is under way in the running body (`behind_loop`)
abbrev pub IsInLoop : List Item → Type 0
IsInLoop [] = ⊥
IsInLoop (Repeats body ∷ items) = ⊤
IsInLoop (RepeatsWhile condition body ∷ items) = ⊤
IsInLoop (RepeatsFor parameter reversed now last body ∷ items) = ⊤
IsInLoop (EndsCall names opened xs ∷ items) = ⊥
IsInLoop (EndsServed object names completion ∷ items) = ⊥
IsInLoop (i ∷ items) = IsInLoop items

-- an activation waits for the end of this one (`leaves`)
abbrev pub IsAwaited : List Activation → Type 0
IsAwaited callers = (c : Activation) × (others : List Activation) × (callers ≡ c ∷ others)

-- where the next item ends a body
abbrev pub IsAwaitedAt : List Activation → List Item → Type 0
IsAwaitedAt callers (EndsCall names opened xs ∷ items) = IsAwaited callers
IsAwaitedAt callers (EndsServed object names completion ∷ items) = IsAwaited callers
IsAwaitedAt callers items = ⊤

module _ (program : Program) (m : Store) (own : Activation) where
  -- there is such an object, and it has such a part: so what is stored there changes it (`stored_to`, `changed_element`, `changed_field`)
  abbrev pub IsThere : Target → Type 0
  IsThere x = (v : Value) × (target_value x m own ≡ Some v)

  abbrev pub AreThere : List Target → Type 0
  AreThere [] = ⊤
  AreThere (x ∷ xs) = IsThere x × AreThere xs

  -- as many values as targets, and these are there (`copying`)
  pub record AreCopied (vs : List Value) (xs : List Target) : Type 0 where
    pub matched : length vs ≡ length xs
    pub targets : AreThere xs

  abbrev pub IsCopied : Completion → Type 0
  IsCopied (Completed vs xs) = AreCopied vs xs
  IsCopied (Pending x) = ⊤

  -- what the next item takes, with these behind it
  abbrev pub HasWhatItTakes : Item → List Item → Type 0
  -- where the name of what is assigned to names something, it is there
  HasWhatItTakes (Does (Assignment name e)) items =
      (p : Place) (x : Target) → target (inside program m own p) name.first.name name.selectors ≡ Gives x → IsThere x
  HasWhatItTakes (Does (Exit place condition)) items = IsInLoop items
  -- each parameter that is copied back has a value (`with_value_of`), and a target
  HasWhatItTakes (EndsCall names opened xs) items = (length (results_in own.locals names) ≡ length names) × (length names ≡ length xs)
  HasWhatItTakes (EndsAction o completion) items = IsCopied completion
  HasWhatItTakes (EndsServed o names completion) items =
      (length (results_in own.locals names) ≡ length names) × (q : Procedure) × (entry_of program.procedures o ≡ Some q)
      × (length names ≡ length (results q.parameters))
  HasWhatItTakes item items = ⊤

  abbrev pub HasWhatTheNextTakes : List Item → Type 0
  HasWhatTheNextTakes [] = ⊤
  HasWhatTheNextTakes (i ∷ items) = HasWhatItTakes i items

  abbrev pub WorkHasAll : Work → Type 0
  WorkHasAll (Goes items) = HasWhatTheNextTakes items
  WorkHasAll (Copies vs xs items) = AreCopied vs xs
  WorkHasAll (Raising x items) = ⊤

-- A call of the entry of this object, with a value for each parameter that is copied in and a target for each that is copied back: so the entry's body can be
-- run
-- for it, and its results find their targets (`serves`, `received`).
pub record IsWaitingCall (program : Program) (o : ℕ) (work : Work) : Type 0 where
  pub entry : Procedure
  pub values : List Value
  pub targets : List Target
  pub items : List Item
  pub is : work ≡ Goes (Queued entry values targets ∷ items)
  pub only : entry_of program.procedures o ≡ Some entry
  pub taken : length values ≡ length (taken_types entry.parameters)
  pub given : length targets ≡ length (results entry.parameters)

-- ---- worlds

pub record HasAll (program : Program) (w : SourceWorld) : Type 0 where
  -- each barrier is True or False (`is_true`)
  pub barriers : (o : ℕ) (e : ExprTree) → barrier_of program.procedures o ≡ Some e
      → (b : Bool) × (val (barrier_place program w.rest.memory o) e ≡ Gives (Truth b))
  -- a task that waits in an entry call, in the queue or while it is served, has that call to do
  pub waiting : (u o : ℕ) → awaited (w.kernel.place u) ≡ Some o → IsWaitingCall program o (w.rest.tasks u).work
  pub works : (u : ℕ) → WorkHasAll program w.rest.memory (w.rest.tasks u).own (w.rest.tasks u).work
  -- where a body ends, also by an exception, an activation waits for that
  pub callers : (u : ℕ) → IsAwaitedAt (w.rest.tasks u).callers (items_of (w.rest.tasks u).work)

abbrev pub RunsHaveAll : Type 0
RunsHaveAll = (t : ProgramTree) (schedule : List ScheduleLine) (n : ℕ) → IsLegal t → IsRestricted t → HasAll (program_of t) (source t schedule n)
