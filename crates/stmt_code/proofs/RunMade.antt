-- What was put together and joined to the code of a program; and of a body, what it does.
use Rattle.std.proofs.Common.{◌≡◌, [], ap, ◌∙◌, subst, length, arith}
use Rattle.ada_tree.specs.ProgramTree.{BodyTree}
use Rattle.kernel.specs.Laws.{QuietStays}
use Rattle.handlers.specs.Laws.{RowsAround, RowsInside}
use Rattle.types.specs.Laws.{InitialValuesHaveShape, PartsHavePlaces, ShapesStay, ValuesHaveWords}
use Rattle.types.specs.Statics.{StaticIsValue}
use Rattle.expr_soundness.specs.BoundsLaw.{AllValuesLie, ChecksAreSpared, ValuesAreBounded, VisibleValuesLie}
use Rattle.expr_soundness.specs.Laws.{AgreementIsKept, CallsAreTyped, ExpressionsAreTyped, ScopesAreSound}
use Rattle.expr_soundness.specs.SoundScopes.{SoundScope}
use Rattle.expr_code.specs.declared.refusal.Refusal.{Refusal}
use Rattle.expr_code.specs.declared.visible.Visible.{Visible}
use Rattle.part_code.specs.Bounds.{run_bound}
use Rattle.part_code.specs.Emitting.{HasEntries}
use Rattle.part_code.specs.Labels.{handlers_labels, stmts_labels}
use Rattle.part_code.specs.Providing.{HasWhatCodeNeeds}
use Rattle.part_code.specs.Rows.{handlers_rows, stmts_rows}
use Rattle.part_code.proofs.PieceNeeds.{laws_of}
use Rattle.stmt_code.specs.Drafting.{CodePart, Drafted, Sketched, adds}
use Rattle.stmt_code.specs.Emitting.{EmitsRun, IsAcceptedRun}
use Rattle.stmt_code.specs.Joining.{IsJoined, Overflows, begun_from}
use Rattle.stmt_code.specs.Refusing.{run_needs}
use Rattle.stmt_code.specs.StatementCode.{run_code}
use Rattle.stmt_code.specs.Timely.{handlers_timely, locals_seen, stmts_timely}
use Rattle.stmt_code.specs.declared.draft.Draft.{Draft}
use Rattle.stmt_code.proofs.AssignmentFills.{assignment_fills}
use Rattle.stmt_code.proofs.BodiesDo.{run_does, run_of, site_of, start_of}
use Rattle.stmt_code.proofs.CallFills.{call_fills}
use Rattle.stmt_code.proofs.ObjectFills.{object_fills}
use Rattle.stmt_code.proofs.PartsDo.{StatementLaws}
use Rattle.stmt_code.proofs.PartsFill.{Fills}
use Rattle.stmt_code.proofs.RowsKept.{KeepsRows}
use Rattle.stmt_code.proofs.RunJoined.{part_made, run_joins}
use Rattle.stmt_code.proofs.StatementRows.{run_kept}
use Rattle.stmt_code.proofs.StatementsFill.{SimpleFillLaws, run_fills}

pub simple_fill : StatementLaws → SimpleFillLaws
simple_fill laws = record {
  assignment = assignment_fills laws.expressions;
  call = call_fills laws;
  object = object_fills laws.expressions laws.shaped;
}

-- labels that are given back are none of what is joined
joined_to : (old before new : Draft) (m : Drafted) → before ≡ record old { labels = [] } → IsJoined before m new → IsJoined old m new
joined_to old before new m rest h =
    let j : IsJoined (record old { labels = [] }) m new = subst (λ d. IsJoined d m new) rest h in
    record {
      code = j.code;
      rows = j.rows;
      places = j.places;
      labels = j.labels;
      few = j.few;
      taken = j.taken;
      most = j.most;
      wide = j.wide;
      exceptions = j.exceptions;
    }

-- those that functions ensure
pub statement_laws : QuietStays → ExpressionsAreTyped → ChecksAreSpared → AllValuesLie → ValuesHaveWords → PartsHavePlaces → AgreementIsKept → CallsAreTyped
    → InitialValuesHaveShape → ShapesStay → ScopesAreSound → ValuesAreBounded → VisibleValuesLie → RowsInside → RowsAround → StatementLaws
statement_laws quiet typed spared lie words places kept calls shaped stay scopes bounded visible inside around =
    record {
      expressions = laws_of quiet typed spared lie words places;
      kept = kept;
      calls = calls;
      shaped = shaped;
      stay = stay;
      scopes = scopes;
      bounded = bounded;
      visible = visible;
      inside = inside;
      around = around;
    }

-- ---- what was put together after a draft, whose labels were taken out, and joined to it

module _ (old before : Draft) (a : CodePart) (rest : before ≡ record old { labels = [] }) (first last : Sketched) (begun : first ≡ begun_from old)
    (made : last ≡ adds first a) where
  made_is : last.made ≡ a (start_of old)
  made_is = ap (λ s. s.made) made ∙ (λ j. (adds (begun j) a).made) ∙ part_made old a

  pub part_joined : (new : Draft) → IsJoined before last.made new → IsJoined old (a (start_of old)) new
  part_joined new joins = subst (λ m. IsJoined old m new) made_is (joined_to old before new last.made rest joins)

  pub part_overflows : (why : Refusal) → Overflows before last.made why → Overflows old (a (start_of old)) why
  part_overflows why h = subst (λ m. Overflows old m why) made_is (subst (λ d. Overflows d last.made why) rest h)

-- ---- a body

module _ (laws : StatementLaws) (statics : StaticIsValue) (v : Visible) (old : Draft) (b : BodyTree) (sound : SoundScope v.scope) (entries : HasEntries v)
    (covered : HasWhatCodeNeeds old.exceptions.items v) (legal : IsAcceptedRun v.scope b.declarations b.statements b.handlers)
    (timely : stmts_timely (locals_seen v.scope b.declarations) b.statements × handlers_timely (locals_seen v.scope b.declarations) b.handlers) where
  pub run_filled : Fills (run_needs v old.words.taken b.declarations b.statements b.handlers) (run_bound v.scope b.declarations b.statements b.handlers)
      (λ l. handlers_labels (stmts_labels l b.statements) b.handlers) (λ k. handlers_rows (stmts_rows k b.statements) b.handlers)
      (run_code (site_of v old) b)
  run_filled =
      run_fills laws.expressions (simple_fill laws) (site_of v old) b (record { sound = sound; entries = entries; has = covered }) legal timely.0 timely.1

  kept : KeepsRows (length old.exceptions.items) (run_code (site_of v old) b)
  kept = run_kept (length old.exceptions.items) (site_of v old) (omega arith) b

  pub run_emits : (new : Draft) → IsJoined old (run_of v old b) new → EmitsRun v old b.declarations b.statements b.handlers new
  run_emits new joined = run_does laws statics v old new b sound entries covered legal (run_joins v old new b joined kept run_filled)
