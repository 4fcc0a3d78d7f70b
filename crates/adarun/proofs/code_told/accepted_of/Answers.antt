use Rattle.std.proofs.Common.{◌≡◌, Err, rules, subst, sym, ◌∙◌}
use Rattle.std.specs.Prelude.{IfErr}
use Rattle.std.proofs.lemmas.Result.{IfErr-weaker, IfOk-weaker}
use Rattle.adarun.proofs.CodeTold.{RefusedBy, check_refused, restrict_refused}
use Rattle.adarun.proofs.code_told.accepted_of.Goals as goal

pub returns-in_err-checked-clause-refused : goal.returns-in_err-checked-clause-refused
returns-in_err-checked-clause-refused c =
    let is : c.from_residual.result ≡ Err c.in_err-checked.field-0.0 = search rules in
    subst (λ r. IfErr r (RefusedBy c.args.program)) (sym is) (check_refused _ c.args.program _ c.new.ensures.same c.in_err-checked.ensures.refused)

pub returns-clause-same : goal.returns-clause-same
returns-clause-same c =
    IfOk-weaker c.restrict.result _ _ (λ accepted same. same ∙ c.in_ok-checked.ensures.same ∙ c.new.ensures.same) c.restrict.ensures.same

pub returns-clause-refused : goal.returns-clause-refused
returns-clause-refused c =
    IfErr-weaker c.restrict.result _ _
    (λ fault h. restrict_refused _ c.args.program fault (c.in_ok-checked.ensures.same ∙ c.new.ensures.same) h)
    c.restrict.ensures.refused
