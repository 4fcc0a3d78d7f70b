-- What a handler has to do at each of its starts breaks no rule (RM C.3.1).
use Rattle.std.proofs.Common.{inl, [], ◌∷◌, Some, None, refl, sym, subst}
use Rattle.step_soundness.specs.stmt_rules.specs.declared.around.BodyKind.TheVariants as kind
use Rattle.step_soundness.specs.stmt_rules.specs.StatementRules.{in_body}
use Rattle.expr_soundness.specs.meaning.specs.Programs.{Attached, Procedure, Program}
use Rattle.expr_soundness.specs.meaning.specs.Works.{EndsCall, Item, Store}
use Rattle.expr_soundness.specs.meaning.specs.Calls.{activation_of, body_items}
use Rattle.expr_soundness.specs.meaning.specs.Source.{handler_work, outermost, procedure_work}
use Rattle.types.specs.Places.{Place}
use Rattle.step_soundness.specs.Fitting.{FitsScope, taken_types}
use Rattle.step_soundness.specs.Objects.{AreOf}
use Rattle.step_soundness.specs.Opened.{ForCall, IsHeld}
use Rattle.step_soundness.specs.Judged.{IsPlain, Waiting}
use Rattle.step_soundness.specs.Holding.{EndsBody, IsSoundBody, IsSoundTask, inside}
use Rattle.step_soundness.specs.Starting.{IsSoundHandler}
use Rattle.step_soundness.proofs.Calling.{among_owner, bound_sound, opened_body}
use Rattle.step_soundness.proofs.Turning.{begins_ready}
use Rattle.program_soundness.specs.BodyLaws.{HasSoundBodies}

plain_body : IsPlain (in_body kind.Task)
plain_body = record { loop = refl; handler = refl; kind = refl }

module _ (program : Program) (m : Store) (bodies : HasSoundBodies program m)
    (fits : (p : Place) → FitsScope program program.scope (inside program m outermost p)) (a : Attached) (h : IsSoundHandler program a) where
  abbrev q : Procedure
  q = h.procedure

  abbrev end : Item
  end = EndsCall [] (Some a.object) []

  -- behind the body nothing is left to do
  abbrev below : Waiting
  below = record { scope = program.scope; activation = outermost }

  given : AreOf program.scope (taken_types q.parameters) []
  given = subst (λ ps. AreOf program.scope (taken_types ps) []) (sym h.plain) tt

  body : IsSoundBody program m q []
  body = bodies.procedures (Some a.object) a.name q h.is [] given

  ends : EndsBody program q (below ∷ []) end []
  ends s around plain named = (plain, [], tt, tt, tt, in_body kind.Task, plain_body)

  procedure_sound : IsSoundTask program m None (procedure_work a.object (Some q))
  procedure_sound =
      record {
        scope = body.scope;
        outer = below ∷ [];
        around = body.around;
        work = begins_ready program (activation_of q []) body.scope (below ∷ []) body.around (body_items q end []) (body.items (below ∷ []) end [] ends);
        own = record { fits = body.fits; locals = bound_sound program.scope q.parameters [] given };
        callers = refl;
        all = (record { fits = fits; locals = tt }, tt);
        held = subst (IsHeld q.object) (sym (opened_body q end []))
            (subst (λ o. IsHeld o (ForCall a.object ∷ [])) (sym (among_owner program.procedures (Some a.object) a.name q h.is)) (inl refl));
      }

  pub handler_sound : IsSoundTask program m None (handler_work program (Some a))
  handler_sound = subst (λ o. IsSoundTask program m None (procedure_work a.object o)) (sym h.is) procedure_sound
