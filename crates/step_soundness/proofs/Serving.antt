-- What a step comes to in other tasks: they go on as they stood, a caller's entry body is run for it, and it goes on behind its call (RM 9.5.3).
use Rattle.std.proofs.Common.{◌≡◌, ℕ, List, ◌∷◌, None, inl, refl, sym, ap, ◌∙◌, subst}
use Rattle.expr_soundness.specs.types.specs.Scopes.{Scope}
use Rattle.stmt_rules.specs.declared.around.Around.{Around}
use Rattle.expr_soundness.specs.meaning.specs.Programs.{Program}
use Rattle.expr_soundness.specs.meaning.specs.Works.{Item, EndsServed, Queued, Work, Goes, Activation, GivenToCaller, Results, Raised, Store, TaskWork}
use Rattle.expr_soundness.specs.meaning.specs.Calls.{activation_of, body_items, results}
use Rattle.expr_soundness.specs.meaning.specs.SourceSteps.{completion_of, items_of, received, serves}
use Rattle.step_soundness.specs.Objects.{AreOf}
use Rattle.step_soundness.specs.Fitting.{result_types}
use Rattle.step_soundness.specs.Opened.{ForCaller, IsHeld, opened_in}
use Rattle.step_soundness.specs.Judged.{IsQueuedWork, IsWork, Waiting}
use Rattle.step_soundness.specs.Holding.{IsGiven, IsSoundBody, IsSoundServer, IsSoundStore, IsSoundTask}
use Rattle.step_soundness.specs.Laws.{CallersGoOn, OthersStaySound, ServersAreSound}
use Rattle.step_soundness.proofs.Lookups.{same_some}
use Rattle.step_soundness.proofs.Sights.{narrows_same}
use Rattle.step_soundness.proofs.Going.{leaves_of}
use Rattle.step_soundness.proofs.Storing.{activation_after, all_after}
use Rattle.step_soundness.proofs.Ending.{copying_work, opened_copying}
use Rattle.step_soundness.proofs.Turning.{begins_ready}
use Rattle.step_soundness.proofs.Calling.{bound_sound, opened_body}

pub others_stay_sound : OthersStaySound
others_stay_sound program within waits before after t keeps task =
    record {
      scope = task.scope;
      outer = task.outer;
      around = task.around;
      work = task.work;
      own = activation_after program before after keeps.agreement task.scope t.own task.own;
      callers = task.callers;
      all = all_after program before after keeps.agreement task.outer task.all;
      held = task.held;
    }

-- ---- a body is run for a queued caller

served : (program : Program) (m : Store) (o : ℕ) (own : Activation) (s : Scope) (outer : List Waiting) (a : Around) (w : Work) (t : TaskWork) → IsSoundStore program m → IsQueuedWork program o own s outer a w
    → IsSoundServer program m t → IsSoundTask program m None (serves o w t)
served program m o own s outer a (Goes (Queued q vs xs ∷ items)) t store is server =
    record {
      scope = body.scope;
      outer = waiting ∷ server.outer;
      around = body.around;
      work = begins_ready program (activation_of q vs) body.scope (waiting ∷ server.outer) body.around (body_items q end (items_of t.work))
          (body.items (waiting ∷ server.outer) end (items_of t.work) (λ u b plain named. (plain, q, is.0.only, named, server.completion, server.held, server.around, server.items)));
      own = record { fits = body.fits; locals = bound_sound program.scope q.parameters vs is.0.given };
      callers = ap (λ l. t.own ∷ l) server.callers;
      all = (record { fits = server.own.fits; locals = server.own.locals }, server.all);
      held = subst (IsHeld q.object) (sym (opened_body q end (items_of t.work))) (subst (λ w. IsHeld w (ForCaller o ∷ opened_in (items_of t.work))) (sym is.0.owner) (inl refl));
    }
  where
    body : IsSoundBody program m q vs
    body = store.entries o q is.0.only vs is.0.given

    waiting : Waiting
    waiting = record { scope = server.scope; activation = t.own }

    end : Item
    end = EndsServed o (results q.parameters) (completion_of t.work)
served program m o own s outer a w t store is server = absurd is

pub servers_are_sound : ServersAreSound
servers_are_sound program m o caller t store task server = served program m o caller.own task.scope task.outer task.around caller.work t store task.work server

-- ---- a caller goes on

received_work : (program : Program) (o : ℕ) (own : Activation) (s : Scope) (outer : List Waiting) (a : Around) (g : GivenToCaller) (w : Work) → IsQueuedWork program o own s outer a w → IsGiven program o g
    → IsWork program own s outer a (received g w)
received_work program o own s outer a (Results vs) (Goes (Queued q given xs ∷ items)) is of =
    let same : of.0 ≡ q = same_some of.0 q (sym of.1 ∙ is.0.only) in
    copying_work program own s outer a (result_types q.parameters) vs xs items (subst (λ r. AreOf program.scope (result_types r.parameters) vs) same of.2) is.0.targets is.1
received_work program o own s outer a (Raised x) (Goes (Queued q given xs ∷ items)) is known = (known, leaves_of program s outer a items (s, narrows_same program s, is.1))
received_work program o own s outer a g w is of = absurd is

received_held : (program : Program) (o : ℕ) (own : Activation) (s : Scope) (outer : List Waiting) (a : Around) (g : GivenToCaller) (w : Work) → IsQueuedWork program o own s outer a w
    → opened_in (items_of (received g w)) ≡ opened_in (items_of w)
received_held program o own s outer a (Results vs) (Goes (Queued q given xs ∷ items)) is = opened_copying vs xs items
received_held program o own s outer a (Raised x) (Goes (Queued q given xs ∷ items)) is = refl
received_held program o own s outer a g w is = absurd is

pub callers_go_on : CallersGoOn
callers_go_on program m o caller g task given =
    record {
      scope = task.scope;
      outer = task.outer;
      around = task.around;
      work = received_work program o caller.own task.scope task.outer task.around g caller.work task.work given;
      own = task.own;
      callers = task.callers;
      all = task.all;
      held = subst (IsHeld caller.own.within) (sym (received_held program o caller.own task.scope task.outer task.around g caller.work task.work)) task.held;
    }
