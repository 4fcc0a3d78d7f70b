use Rattle.std.proofs.Common.{◌≡◌, ◌∙◌, arith, of_z, rules, subst, sym, to_z, w64}
use Rattle.std.specs.Prelude.{◌<ℤ◌, ◌≤ℤ◌}
use Rattle.std.proofs.lemmas.Int.{ints}
use Rattle.machine.specs.Bounds.{IsCutByTime, IsTimeBound}
use Rattle.machine.proofs.Bounding.{comes_first, comes_on, cut_after_outcome, cut_there}
use Rattle.machine.proofs.running.Machine.bound_by_time.Goals as goal

pub loop-taken-init : goal.loop-taken-init
loop-taken-init g c = (comes_first c.args.self.now _ c.requires.stands, omega arith, omega arith)

pub loop-taken-preserved : goal.loop-taken-preserved
loop-taken-preserved g c =
    let less = c.loop-taken-test.true in
    let low : c.now.result ≤ℤ to_z w64 (of_z w64 c.args.until) = grind (arith, ints, c.if-until-now.false) in (
      comes_on _ _ _ _ _ c.loop-taken.invariant.0 c.step.new.self c.step.result c.step.ensures.world c.now.result c.now.ensures c.step.ensures.image c.step.ensures.schedule low,
      omega (arith, less),
      omega (arith, c.loop-taken.invariant.2, c.step.ensures.one),
    )

pub returns-in-Some-clause-bound : goal.returns-in-Some-clause-bound
returns-in-Some-clause-bound g c =
    let last = c.in-Some.ensures.last in
    let u : to_z w64 (of_z w64 c.args.until) ≡ c.args.until = search rules in
    subst (λ z. IsTimeBound c.args.self.now.image c.args.self.now.schedule z c.args.limit c.at_most.result.steps c.at_most.result.cut) u
    (cut_after_outcome _ _ _ _ _ c.loop-taken.invariant.0 c.outcome_stays.ensures c.args.limit c.loop-taken.invariant.1 last.0 (sym c.in-Some.ensures.outcome ∙ last.1) _ c.at_most.ensures)

pub returns-then-until-now-clause-bound : goal.returns-then-until-now-clause-bound
returns-then-until-now-clause-bound g c =
    let past : to_z w64 (of_z w64 c.args.until) <ℤ c.now.result = grind (arith, ints, c.if-until-now.true) in
    let u : to_z w64 (of_z w64 c.args.until) ≡ c.args.until = search rules in
    subst (λ z. IsCutByTime c.args.self.now.image c.args.self.now.schedule z c.args.limit c.loop-taken.taken) u
    (cut_there _ _ _ _ _ c.loop-taken.invariant.0 c.step.new.self c.step.result c.step.ensures.world c.now.result c.now.ensures c.args.limit c.loop-taken-test.true past)
