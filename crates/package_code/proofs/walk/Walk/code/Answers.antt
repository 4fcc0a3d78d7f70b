use Rattle.std.proofs.Common.{◌≡◌, None, rules, subst}
use Rattle.std.proofs.lemmas.Result.{IfErr-weaker, on_ok_weaker}
use Rattle.ada_tree.specs.StatementTree.{subprogram_tree}
use Rattle.ada_tree.specs.ProgramTree.{body_tree}
use Rattle.stmt_code.specs.WholeRefusals.{RefusesProcedure}
use Rattle.package_code.specs.Walking.{RefusesBody}
use Rattle.package_code.proofs.BodyRefused.{both_ok, procedure_refused, procedure_told}
use Rattle.package_code.proofs.walk.Walk.code.Goals as goal

pub returns-in-None-clause-told : goal.returns-in-None-clause-told
returns-in-None-clause-told c =
    let none : (subprogram_tree c.args.subprogram.now).result ≡ None = search rules in
    on_ok_weaker c.procedure.result
    (λ h. procedure_told c.args.self.now.draft c.procedure.new.self (subprogram_tree c.args.subprogram.now) (body_tree c.args.body.now) none h.0 h.1)
    (both_ok c.procedure.result _ _ c.procedure.ensures.labels c.procedure.ensures.rows)

pub returns-in-None-clause-refused : goal.returns-in-None-clause-refused
returns-in-None-clause-refused c =
    let none : (subprogram_tree c.args.subprogram.now).result ≡ None = search rules in
    let v = c.args.self.now.visible in
    let old = c.args.self.now.draft in
    let d = subprogram_tree c.args.subprogram.now in
    IfErr-weaker c.procedure.result (λ why. RefusesProcedure v old c.deref.result.now (body_tree c.args.body.now) why)
    (λ why. RefusesBody v old d (body_tree c.args.body.now) why)
    (λ why h.
    procedure_refused v old d (body_tree c.args.body.now) why none
    (subst (λ l. RefusesProcedure v old l (body_tree c.args.body.now) why) c.deref.ensures.value h))
    c.procedure.ensures.refused
