use Rattle.std.proofs.Common.{◌≡◌, ◌∙◌, arith, inl, inr, sym}
use Rattle.pictures.proofs.Extents.{all_counted, none_counted, one_counted}
use Rattle.pictures.proofs.extent.count_steps.Goals as goal

pub loop-taken-init : goal.loop-taken-init
loop-taken-init g c = (none_counted c.args.machine.now c.requires, omega arith, omega arith)

pub loop-taken-preserved : goal.loop-taken-preserved
loop-taken-preserved g c =
    let less = c.loop-taken-test.true in (
      one_counted _ _ _ _ c.loop-taken.invariant.0 c.step.new.self c.step.result c.step.ensures.world (sym c.in_default.ensures.outcome) c.step.ensures.image c.step.ensures.schedule,
      omega (arith, less),
      omega (arith, c.loop-taken.invariant.2, c.step.ensures.one),
    )

pub returns-in-Some-clause-stands : goal.returns-in-Some-clause-stands
returns-in-Some-clause-stands g c =
    let last = c.in-Some.ensures.last in
    (all_counted _ _ _ _ c.loop-taken.invariant.0 c.outcome_stays.ensures c.args.limit c.loop-taken.invariant.1 (inr (last.0, sym c.in-Some.ensures.outcome ∙ last.1))).0

pub returns-in-Some-clause-taken : goal.returns-in-Some-clause-taken
returns-in-Some-clause-taken g c =
    let last = c.in-Some.ensures.last in
    (all_counted _ _ _ _ c.loop-taken.invariant.0 c.outcome_stays.ensures c.args.limit c.loop-taken.invariant.1 (inr (last.0, sym c.in-Some.ensures.outcome ∙ last.1))).1

pub returns-clause-stands : goal.returns-clause-stands
returns-clause-stands g c =
    let low = c.loop-taken.invariant.1 in
    let high = c.loop-taken-test.false in
    let at : c.loop-taken.taken ≡ c.args.limit = omega (arith, low, high) in
    (all_counted _ _ _ _ c.loop-taken.invariant.0 c.outcome_stays.ensures c.args.limit low (inl at)).0

pub returns-clause-taken : goal.returns-clause-taken
returns-clause-taken g c =
    let low = c.loop-taken.invariant.1 in
    let high = c.loop-taken-test.false in
    let at : c.loop-taken.taken ≡ c.args.limit = omega (arith, low, high) in
    (all_counted _ _ _ _ c.loop-taken.invariant.0 c.outcome_stays.ensures c.args.limit low (inl at)).1
