use Rattle.std.proofs.Common.{sym}
use Rattle.std.proofs.lemmas.Result.{IfOk-weaker}
use Rattle.endings.proofs.Followed.{step_made}
use Rattle.endings.proofs.sources.after_step.Goals as goal

pub returns-in-Some-Some : goal.returns-in-Some-Some
returns-in-Some-Some g c =
    IfOk-weaker c.left_from.result _ _
    (λ next made. step_made _ _ _ _ _ _ _ _ _ _ _ c.in-Some-Some.is-0 (sym c.in-Some-Some.ensures) c.deref.ensures.value c.deref-in-Some-Some.ensures.value
    c.came_from-came.ensures made)
    c.left_from.ensures
