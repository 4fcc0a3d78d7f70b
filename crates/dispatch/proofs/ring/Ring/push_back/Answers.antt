use Rattle.std.proofs.Common.{◌<◌, length, subst, sym, ap, ◌∙◌}
use Rattle.dispatch.proofs.Rings.{length_from, pushed_back}
use Rattle.dispatch.proofs.ring.Ring.push_back.Goals as goal

pub returns : goal.returns
returns c =
    let r = c.self.inside in
    pushed_back r.places c.args.self.now r.start r.count c.args.task c.self.view_is c.self.invariant.0
    (subst (λ n. n < 65) (sym (ap length c.self.view_is) ∙ length_from r.places r.start r.count) c.requires)
