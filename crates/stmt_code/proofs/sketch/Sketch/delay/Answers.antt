use Rattle.std.proofs.Common.{◌≡◌, true, refl, rules, subst}
use Rattle.types.specs.Scopes.{integer}
use Rattle.expr_soundness.specs.BoundsLaw.{is_inside}
use Rattle.stmt_code.proofs.PartsAdded.{coded_made}
use Rattle.stmt_code.proofs.sketch.Sketch.delay.Goals as goal

pub returns : goal.returns
returns c =
    let held : is_inside c.bounds.result integer ≡ true = search rules in
    record {
      made = coded_made _ _ _ _ _ c.self.view_is c.in_ok-delay.ensures.made refl;
      timely = subst (λ b. is_inside b integer ≡ true) c.bounds.ensures held;
    }
