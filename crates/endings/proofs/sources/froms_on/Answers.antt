use Rattle.std.proofs.Common.{◌≡◌, ◌∙◌, arith, inl, inr, refl, sym}
use Rattle.endings.proofs.Followed.{few_at_first, few_later, followed_on, followed_over, followed_start}
use Rattle.endings.proofs.sources.froms_on.Goals as goal

pub loop-step-init : goal.loop-step-init
loop-step-init g c = (
  followed_start c.args.after.now.image c.args.after.now.schedule c.args.before.now c.args.after.now c.requires.image c.requires.schedule c.requires.stands_before c.requires.stands refl refl _ c.in_ok-froms.ensures,
  (omega arith, (few_at_first _ c.in_ok-froms.ensures, omega arith)),
)

pub loop-step-preserved : goal.loop-step-preserved
loop-step-preserved g c =
    let less = c.loop-step-test.true in
    let made = c.in_ok-froms-2.ensures in (
      followed_on _ _ _ _ _ _ c.loop-step.invariant.0 c.raising_ahead-raising.result c.raising_ahead-raising.ensures c.step.new.self c.step.result c.step.ensures.world
          c.step-in-loop-step.new.self c.step-in-loop-step.result c.step-in-loop-step.ensures.world c.step-in-loop-step.ensures.image c.step.ensures.image c.step-in-loop-step.ensures.schedule c.step.ensures.schedule _ made,
      (
        omega (arith, less),
        (few_later _ _ _ _ _ _ made c.loop-step.invariant.1.1.0, omega (arith, c.loop-step.invariant.1.1.1, c.step.ensures.one, c.step-in-loop-step.ensures.one)),
      ),
    )

pub returns-in-Some-clause-froms : goal.returns-in-Some-clause-froms
returns-in-Some-clause-froms g c =
    let last = c.in-Some.ensures.last in
    followed_over c.outcome_stays.ensures _ _ _ _ _ _ c.loop-step.invariant.0 c.args.limit c.loop-step.invariant.1.0 (inr (last.0, sym c.in-Some.ensures.outcome ∙ last.1))

pub returns-clause-froms : goal.returns-clause-froms
returns-clause-froms g c =
    let low = c.loop-step.invariant.1.0 in
    let high = c.loop-step-test.false in
    let at : c.loop-step.step ≡ c.args.limit = omega (arith, low, high) in
    followed_over c.outcome_stays.ensures _ _ _ _ _ _ c.loop-step.invariant.0 c.args.limit low (inl at)

pub returns-in-Some-clause-count : goal.returns-in-Some-clause-count
returns-in-Some-clause-count g c = omega (arith, c.loop-step.invariant.1.0, c.loop-step.invariant.1.1.1)

pub returns-clause-count : goal.returns-clause-count
returns-clause-count g c = omega (arith, c.loop-step.invariant.1.0, c.loop-step.invariant.1.1.1)
