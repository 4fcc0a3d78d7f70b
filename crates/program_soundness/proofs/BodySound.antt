-- The body of a procedure or entry that breaks no rule in a scope that fits its place is sound.
use Rattle.std.proofs.Common.{◌≡◌, List, [], ◌∷◌, map, false, refl, sym, ap, ◌∙◌}
use Rattle.expr_soundness.specs.ada_tree.specs.ProgramTree.{BodyTree}
use Rattle.types.specs.Scopes.{Scope}
use Rattle.types.specs.Places.{Place}
use Rattle.expr_soundness.specs.expr_rules.proofs.TypedLaw.{back_empty, front_empty}
use Rattle.declaration_rules.specs.BodyNames.{formals_scope}
use Rattle.declaration_rules.specs.LocalRules.{locals_faults}
use Rattle.step_soundness.specs.stmt_rules.specs.declared.around.BodyKind.{BodyKind}
use Rattle.step_soundness.specs.stmt_rules.specs.SimpleRules.{is_function}
use Rattle.step_soundness.specs.stmt_rules.specs.StatementRules.{in_body}
use Rattle.unit_rules.specs.BodyRules.{body_faults}
use Rattle.step_soundness.specs.body_restrictions.specs.BodyRules as profile
use Rattle.expr_soundness.specs.SoundScopes.{SoundScope}
use Rattle.expr_soundness.specs.Laws.{ScopesAreSound}
use Rattle.expr_soundness.specs.meaning.specs.Programs.{Parameter, Program, parameter}
use Rattle.expr_soundness.specs.meaning.specs.Works.{Item, Store}
use Rattle.expr_soundness.specs.meaning.specs.Calls.{body_items, bound, results}
use Rattle.step_soundness.specs.Fitting.{FitsScope, result_types}
use Rattle.step_soundness.specs.Judged.{Begins, IsPlain, Waiting}
use Rattle.step_soundness.specs.Holding.{EndsBody, IsSoundProcedure, inside}
use Rattle.step_soundness.specs.Laws.{Premises}
use Rattle.program_soundness.proofs.WiderScopes.{with_all}
use Rattle.program_soundness.proofs.Formals.{AreNew, all_named, begins_formals, formals_fit, results_are, taken_named}
use Rattle.program_soundness.proofs.Beginning.{begins_body, results_kept}
use Rattle.program_soundness.proofs.Callables.{Bodied, procedure_by}

-- what legality says of a body, in front of whose formals these names are visible
pub record IsLegalBody (program : Program) (m : Store) (u : Bodied) : Type 0 where
  pub scope : Scope
  pub kind : BodyKind
  pub fits : (p : Place) → FitsScope program scope (inside program m (record { within = u.owner; locals = [] }) p)
  pub sound : SoundScope scope
  pub new : AreNew scope (map (parameter program.scope) u.formals)
  pub text : formals_scope scope u.formals ≡ with_all scope (all_named (map (parameter program.scope) u.formals))
  pub legal : body_faults (formals_scope scope u.formals) kind u.body ≡ []
  pub restricted : profile.body_faults u.body ≡ []
  pub statements : is_function kind ≡ false

module _ (program : Program) (laws : Premises program) (scopes : ScopesAreSound) (m : Store) where
  pub procedure_sound : (u : Bodied) → IsLegalBody program m u → IsSoundProcedure program m (procedure_by program.scope u)
  procedure_sound u b vs are = record { scope = with_all b.scope (taken_named ps); around = in_body b.kind; fits = fits; items = items }
    where
      ps : List Parameter
      ps = map (parameter program.scope) u.formals

      body : BodyTree
      body = u.body

      inner : Scope
      inner = with_all b.scope (all_named ps)

      plain : IsPlain (in_body b.kind)
      plain = record { loop = refl; handler = refl; kind = b.statements }

      legal : body_faults inner b.kind body ≡ []
      legal = ap (λ s. body_faults s b.kind body) (sym b.text) ∙ b.legal

      fits : (p : Place) → FitsScope program (with_all b.scope (taken_named ps)) (inside program m (record { within = u.owner; locals = bound ps vs }) p)
      fits p = formals_fit program laws m u.owner p b.scope scopes ps vs b.sound b.new are (b.fits p)

      items : (outer : List Waiting) (end : Item) (rest : List Item) → EndsBody program (procedure_by program.scope u) outer end rest
          → Begins program (with_all b.scope (taken_named ps)) outer (in_body b.kind) (body_items (procedure_by program.scope u) end rest)
      items outer end rest ends =
          begins_formals program scopes outer (in_body b.kind) _ b.scope ps b.sound b.new
          (begins_body program outer (in_body b.kind) body.statements body.handlers (end ∷ rest) inner body.declarations
          (front_empty (locals_faults inner body.declarations) _ legal)
          (front_empty (profile.locals_faults body.declarations) _ (front_empty _ (profile.handlers_faults body.handlers) b.restricted))
          (back_empty (locals_faults inner body.declarations) _ legal)
          (back_empty (profile.locals_faults body.declarations) (profile.stmts_faults body.statements) (front_empty _ (profile.handlers_faults body.handlers) b.restricted))
          (back_empty _ (profile.handlers_faults body.handlers) b.restricted)
          (λ s keeps. ends s (in_body b.kind) plain (results_kept inner s (result_types ps) (results ps) keeps (results_are b.scope ps b.new))))
