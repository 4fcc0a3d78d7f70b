use Rattle.std.proofs.Common.{◌≡◌, Some, of_z, rules, subst, sym, to_z, w64}
use Rattle.machine.specs.Bounds.{IsBound, IsTimeBound}
use Rattle.machine.proofs.bound.bound_of.Goals as goal

pub returns-in_ok-machine-in-Some-clause-bound : goal.returns-in_ok-machine-in-Some-clause-bound
returns-in_ok-machine-in-Some-clause-bound g c =
    let m = c.in_ok-machine-in-Some in
    let until = c.in-Some.until in
    let bound = c.bound_by_time.result in
    let u : to_z w64 (of_z w64 until) ≡ until = search rules in
    let is : c.args.until ≡ Some until = search rules in
    subst (λ o. IsBound c.args.image.now c.args.schedule.now o c.args.limit bound) (sym is)
    (subst (λ z. IsTimeBound c.args.image.now c.args.schedule.now z c.args.limit bound.steps bound.cut) u
    (subst (λ i. IsTimeBound i c.args.schedule.now (to_z w64 (of_z w64 until)) c.args.limit bound.steps bound.cut) m.ensures.image
    (subst (λ s. IsTimeBound m.machine.image s (to_z w64 (of_z w64 until)) c.args.limit bound.steps bound.cut) m.ensures.schedule c.bound_by_time.ensures.bound)))
