-- The actions that items hold open, where a body is run for a caller and where the caller goes on (RM 9.5.3).
use Rattle.std.proofs.Common.{◌≡◌, ℕ, List, [], ◌∷◌, ◌++◌, map, Bool, true, false, cond, refl, ◌∙◌}
use Rattle.expr_soundness.specs.ada_tree.specs.StatementTree.{DeclarationTree}
use Rattle.types.specs.Scopes.{Scope}
use Rattle.types.specs.Values.{Value}
use Rattle.step_soundness.specs.stmt_rules.specs.declared.around.Around.{Around}
use Rattle.expr_soundness.specs.meaning.specs.Programs.{Parameter, Procedure, Program}
use Rattle.expr_soundness.specs.meaning.specs.Works.{Activation, Declares, DeclaresParameter, EndsServed, GivenToCaller, Goes, Item, Queued, Raised, Results, Sequence, Target, TaskWork, Work}
use Rattle.expr_soundness.specs.meaning.specs.Calls.{body_items, declares_parameters, is_out, results}
use Rattle.expr_soundness.specs.meaning.specs.SourceSteps.{completion_of, copying, items_of, received, serves}
use Rattle.step_soundness.specs.Opened.{ForCaller, Opened, opened_in}
use Rattle.step_soundness.specs.Judged.{IsQueuedWork, Waiting}

abbrev pub opened_of : TaskWork → List Opened
opened_of t = opened_in (items_of t.work)

opened_parameters : (fs : List Parameter) (items : List Item) → opened_in (declares_parameters fs items) ≡ opened_in items
opened_parameters [] items = refl
opened_parameters (f ∷ fs) items = by_mode (is_out f.mode) (opened_parameters fs items)
  where
    by_mode : (b : Bool) → opened_in (declares_parameters fs items) ≡ opened_in items
        → opened_in (cond b (DeclaresParameter f ∷ declares_parameters fs items) (declares_parameters fs items)) ≡ opened_in items
    by_mode true later = later
    by_mode false later = later

pub opened_declared : (ds : List DeclarationTree) (items : List Item) → opened_in (map Declares ds ++ items) ≡ opened_in items
opened_declared [] items = refl
opened_declared (d ∷ ds) items = opened_declared ds items

opened_body : (q : Procedure) (end : Item) (items : List Item) → opened_in (body_items q end items) ≡ opened_in (end ∷ items)
opened_body q end items =
    let statements = Sequence q.body.statements q.body.handlers ∷ end ∷ items in
    opened_parameters q.parameters (map Declares q.body.declarations ++ statements) ∙ opened_declared q.body.declarations statements

opened_copying : (vs : List Value) (xs : List Target) (items : List Item) → opened_in (items_of (copying vs xs items)) ≡ opened_in items
opened_copying [] xs items = refl
opened_copying (v ∷ vs) [] items = refl
opened_copying (v ∷ vs) (x ∷ xs) items = refl

module _ (program : Program) (o : ℕ) (own : Activation) (s : Scope) (outer : List Waiting) (a : Around) where
  pub opened_served : (w : Work) (t : TaskWork) → IsQueuedWork program o own s outer a w → opened_of (serves o w t) ≡ ForCaller o ∷ opened_of t
  opened_served (Goes (Queued q vs xs ∷ items)) t is = opened_body q (EndsServed o (results q.parameters) (completion_of t.work)) (items_of t.work)
  opened_served w t is = absurd is

  pub opened_received : (g : GivenToCaller) (w : Work) → IsQueuedWork program o own s outer a w → opened_in (items_of (received g w)) ≡ opened_in (items_of w)
  opened_received (Results vs) (Goes (Queued q given xs ∷ items)) is = opened_copying vs xs items
  opened_received (Raised x) (Goes (Queued q given xs ∷ items)) is = refl
  opened_received g w is = absurd is
