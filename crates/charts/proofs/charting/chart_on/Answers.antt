use Rattle.std.proofs.Common.{◌≡◌, ◌∙◌, ap, length, ◌+◌, ◌≤◌, arith, inl, inr, sym}
use Rattle.tracing.specs.declared.calls.TheConstants.{ACTORS}
use Rattle.charts.specs.Signs.{nothing_seen}
use Rattle.charts.proofs.Charted.{charted_on, charted_over, charted_start, one_each}
use Rattle.charts.proofs.charting.chart_on.Goals as goal

pub loop-step-init : goal.loop-step-init
loop-step-init g c = (
  charted_start c.args.scale c.args.before.now c.args.after.now c.requires.image c.requires.schedule c.requires.stands_before c.requires.stands _ c.requires.times _ (c.note_start.ensures.noted nothing_seen c.requires.nothing),
  omega arith,
  omega arith,
  ap length c.requires.times ∙ one_each ACTORS,
  c.note_start.ensures.room,
)

pub loop-step-preserved : goal.loop-step-preserved
loop-step-preserved g c =
    let less = c.loop-step-test.true in (
      charted_on _ _ _ _ _ _ _ _ c.loop-step.invariant.0 c.ahead_of-ahead.result c.ahead_of-ahead.ensures c.step-shown.new.self c.step-shown.result c.step-shown.ensures.world (sym c.in_default.ensures.outcome)
          c.step.new.self c.step.result c.step.ensures.world c.step.ensures.image c.step-shown.ensures.image c.step.ensures.schedule c.step-shown.ensures.schedule _ c.note_call.ensures.noted _ c.is_line.result c.is_line.ensures
          (c.note_step.ensures.noted _ c.loop-step.invariant.0.charted),
      omega (arith, less),
      omega (arith, c.loop-step.invariant.2, c.step-shown.ensures.one, c.step.ensures.one),
      c.note_call.ensures.room,
      c.note_step.ensures.room,
    )

pub returns-in-Some-clause-charted : goal.returns-in-Some-clause-charted
returns-in-Some-clause-charted g c =
    let last = c.in-Some.ensures.last in
    (charted_over c.outcome_stays.ensures _ _ _ _ c.args.limit _ _ _ _ c.loop-step.invariant.0 c.loop-step.invariant.1 (inr (last.0, sym c.in-Some.ensures.outcome ∙ last.1)) c.in-Some.outcome
    (record { outcome = sym c.in-Some.ensures.outcome; time = sym last.2 })).charted

pub returns-in-Some-clause-ends : goal.returns-in-Some-clause-ends
returns-in-Some-clause-ends g c =
    let last = c.in-Some.ensures.last in
    (charted_over c.outcome_stays.ensures _ _ _ _ c.args.limit _ _ _ _ c.loop-step.invariant.0 c.loop-step.invariant.1 (inr (last.0, sym c.in-Some.ensures.outcome ∙ last.1)) c.in-Some.outcome
    (record { outcome = sym c.in-Some.ensures.outcome; time = sym last.2 })).ends

pub returns-clause-charted : goal.returns-clause-charted
returns-clause-charted g c =
    let low = c.loop-step.invariant.1 in
    let high = c.loop-step-test.false in
    let at : c.loop-step.step ≡ c.args.limit = omega (arith, low, high) in
    (charted_over c.outcome_stays.ensures _ _ _ _ c.args.limit _ _ _ _ c.loop-step.invariant.0 low (inl at) _ c.outcome_or_limit.ensures).charted

pub returns-clause-ends : goal.returns-clause-ends
returns-clause-ends g c =
    let low = c.loop-step.invariant.1 in
    let high = c.loop-step-test.false in
    let at : c.loop-step.step ≡ c.args.limit = omega (arith, low, high) in
    (charted_over c.outcome_stays.ensures _ _ _ _ c.args.limit _ _ _ _ c.loop-step.invariant.0 low (inl at) _ c.outcome_or_limit.ensures).ends

pub returns-in-Some-clause-count : goal.returns-in-Some-clause-count
returns-in-Some-clause-count g c = omega (arith, c.loop-step.invariant.1, c.loop-step.invariant.2)

pub returns-clause-count : goal.returns-clause-count
returns-clause-count g c = omega (arith, c.loop-step.invariant.1, c.loop-step.invariant.2)
