use Rattle.std.proofs.Common.{◌≡◌, Err, false, rules, sym, ap, ◌∙◌, subst}
use Rattle.std.specs.Prelude.{IfErr}
use Rattle.ada_tree.specs.ExpressionTree.{expr_tree}
use Rattle.ada_tree.specs.ProgramTree.{body_tree, program_tree}
use Rattle.ada_tree.specs.StatementTree.{stmt_trees, subprogram_tree}
use Rattle.declaration_rules.specs.BodyNames.{formals_scope}
use Rattle.expr_soundness.specs.meaning.specs.Programs.{program_of, returned, subtype_named}
use Rattle.expr_code.specs.Code.{here}
use Rattle.expr_code.specs.Emitting.{IsFit}
use Rattle.stmt_code.specs.Subprograms.{AddsFunction, IsCalledFunction}
use Rattle.stmt_code.specs.WholeRefusals.{RefusesFunction}
use Rattle.package_code.specs.Walking.{RefusesBody, first_statement_place}
use Rattle.package_code.proofs.BodyRefused.{value_refused, value_told}
use Rattle.package_code.proofs.MarkedFunctions.{keeps_marked, marked_so}
use Rattle.package_code.proofs.walk.Walk.function.Goals as goal

pub function-requires-clause-fit : goal.function-requires-clause-fit
function-requires-clause-fit c =
    let value = expr_tree c.returned-value.result.now in
    let s = c.args.self.now.visible.scope in
    let same : c.result_subtype-result.result ≡ subtype_named (program_of (program_tree c.args.accepted.now)).scope c.args.subtype.now =
    c.result_subtype-result.ensures ∙ ap (λ z. subtype_named z c.args.subtype.now) c.scope.ensures in
    subst (λ l. IsFit (formals_scope s l) c.result_subtype-result.result value) (sym c.deref-2.ensures.value)
    (subst (λ t. IsFit (formals_scope s c.args.subprogram.now.formals.items) t value) (sym same)
    (c.requires.added.fit c.args.subtype.now value c.requires.subtype
    (ap (λ l. returned (stmt_trees l)) (sym c.deref.ensures.value) ∙ c.returned-value.ensures)))

pub returns-clause-adds : goal.returns-clause-adds
returns-clause-adds c =
    let value = expr_tree c.returned-value.result.now in
    let v = c.args.self.now.visible in
    let old = c.args.self.now.draft in
    let mid = c.function.new.self in
    let first : c.len-first.result ≡ here old.code = search rules in
    let behind : c.len-behind.result ≡ here mid.code = search rules in
    let place = c.first_statement_place-place.ensures ∙ ap (λ l. first_statement_place (stmt_trees l)) c.deref-3.ensures.value in
    record {
      value = value;
      returns = ap (λ l. returned (stmt_trees l)) (sym c.deref.ensures.value) ∙ c.returned-value.ensures;
      result = c.result_subtype-result.result;
      named = c.result_subtype-result.ensures ∙ ap (λ z. subtype_named z c.args.subtype.now) c.scope.ensures;
      mid = mid;
      adds = subst (λ l. AddsFunction v old l c.result_subtype-result.result value c.in_ok-words.words mid) c.deref-2.ensures.value c.in_ok-words.ensures.adds;
      marked = marked_so mid c.mark.new.self c.len-first.result c.len-behind.result c.first_statement_place-place.result (here old.code) (here mid.code)
          (first_statement_place (body_tree c.args.body.now).statements) c.in_ok-mark.ensures.rows first behind place;
    }

pub returns-clause-keeps : goal.returns-clause-keeps
returns-clause-keeps c =
    let old = c.args.self.now.draft in
    let mid = c.function.new.self in
    let first : c.len-first.result ≡ here old.code = search rules in
    let behind : c.len-behind.result ≡ here mid.code = search rules in
    let place = c.first_statement_place-place.ensures ∙ ap (λ l. first_statement_place (stmt_trees l)) c.deref-3.ensures.value in
    keeps_marked false c.args.self.now.visible old mid (record mid { rows = c.mark.new.self }) c.in_ok-words.words
    (first_statement_place (body_tree c.args.body.now).statements) c.in_ok-words.ensures.keeps
    (marked_so mid c.mark.new.self c.len-first.result c.len-behind.result c.first_statement_place-place.result (here old.code) (here mid.code)
    (first_statement_place (body_tree c.args.body.now).statements) c.in_ok-mark.ensures.rows first behind place)

pub returns-clause-called : goal.returns-clause-called
returns-clause-called c =
    let s = c.args.self.now.visible.scope in
    let named : c.result_subtype-result.result ≡ subtype_named (program_of (program_tree c.args.accepted.now)).scope c.args.subtype.now =
    c.result_subtype-result.ensures ∙ ap (λ z. subtype_named z c.args.subtype.now) c.scope.ensures in
    subst (λ l. IsCalledFunction s l (subtype_named (program_of (program_tree c.args.accepted.now)).scope c.args.subtype.now) c.in_ok-words.words)
    c.deref-2.ensures.value
    (subst (λ t. IsCalledFunction s c.deref-2.result.now t c.in_ok-words.words) named c.in_ok-words.ensures.called)

pub returns-clause-told : goal.returns-clause-told
returns-clause-told c =
    value_told c.args.self.now.draft (record c.function.new.self { rows = c.mark.new.self }) (subprogram_tree c.args.subprogram.now)
    (body_tree c.args.body.now) c.args.subtype.now c.requires.subtype c.in_ok-words.ensures.labels
    (ap (λ z. z.items) c.in_ok-mark.ensures.rows ∙ ap (λ z. z.items) c.in_ok-words.ensures.rows)

pub returns-in_err-words-clause-refused : goal.returns-in_err-words-clause-refused
returns-in_err-words-clause-refused c =
    let value = expr_tree c.returned-value.result.now in
    let v = c.args.self.now.visible in
    let old = c.args.self.now.draft in
    let why = c.in_err-words.field-0.0 in
    let d = subprogram_tree c.args.subprogram.now in
    let whole : RefusesBody v old d (body_tree c.args.body.now) why =
    value_refused v old d (body_tree c.args.body.now) why c.args.subtype.now value c.requires.subtype
    (ap (λ l. returned (stmt_trees l)) (sym c.deref.ensures.value) ∙ c.returned-value.ensures)
    (subst (λ l. RefusesFunction v old l value why) c.deref-2.ensures.value c.in_err-words.ensures.refused) in
    let is : c.from_residual.result ≡ Err why = search rules in
    subst (λ r. IfErr r (λ f. RefusesBody v old d (body_tree c.args.body.now) f)) (sym is) whole
