use Rattle.std.proofs.Common.{◌≡◌, ◌∙◌, ap, length, arith, inl, inr, sym}
use Rattle.tracing.specs.declared.calls.TheConstants.{ACTORS}
use Rattle.measuring.specs.Measures.{no_steps}
use Rattle.measuring.specs.Stories.{not_called, not_used, nothing_happened}
use Rattle.measuring.proofs.Measured.{measured_on, measured_over, measured_start, one_each}
use Rattle.measuring.proofs.measuring_of.measure_on.Goals as goal

pub loop-step-init : goal.loop-step-init
loop-step-init g c = (
  measured_start c.args.before.now c.args.after.now c.requires.image c.requires.schedule c.requires.stands_before c.requires.stands _ c.requires.times _
      (c.note_start.ensures.noted nothing_happened not_called not_used no_steps c.requires.nothing),
  omega arith,
  omega arith,
  ap length c.requires.times ∙ one_each ACTORS,
  c.note_start.ensures.whole,
)

pub loop-step-preserved : goal.loop-step-preserved
loop-step-preserved g c =
    let less = c.loop-step-test.true in (
      measured_on _ _ _ _ _ _ _ c.loop-step.invariant.0 c.ahead_of-ahead.result c.ahead_of-ahead.ensures c.frames_ahead-frames.result c.frames_ahead-frames.ensures c.step.new.self c.step.result c.step.ensures.world (sym c.in_default.ensures.outcome)
          c.step-in-loop-step.new.self c.step-in-loop-step.result c.step-in-loop-step.ensures.world c.step-in-loop-step.ensures.image c.step.ensures.image c.step-in-loop-step.ensures.schedule c.step.ensures.schedule _ c.note_call.ensures.noted _
          (c.note_step.ensures.noted _ _ _ _ c.loop-step.invariant.0.measured),
      omega (arith, less),
      omega (arith, c.loop-step.invariant.2, c.step.ensures.one, c.step-in-loop-step.ensures.one),
      c.note_call.ensures.room,
      c.note_step.ensures.whole,
    )

pub returns-in-Some-clause-measured : goal.returns-in-Some-clause-measured
returns-in-Some-clause-measured g c =
    let last = c.in-Some.ensures.last in
    (measured_over c.outcome_stays.ensures _ _ _ c.args.limit _ _ _ _ c.loop-step.invariant.0 c.loop-step.invariant.1 (inr (last.0, sym c.in-Some.ensures.outcome ∙ last.1)) c.in-Some.outcome
    (record { outcome = sym c.in-Some.ensures.outcome; time = sym last.2 })).measured

pub returns-in-Some-clause-ends : goal.returns-in-Some-clause-ends
returns-in-Some-clause-ends g c =
    let last = c.in-Some.ensures.last in
    (measured_over c.outcome_stays.ensures _ _ _ c.args.limit _ _ _ _ c.loop-step.invariant.0 c.loop-step.invariant.1 (inr (last.0, sym c.in-Some.ensures.outcome ∙ last.1)) c.in-Some.outcome
    (record { outcome = sym c.in-Some.ensures.outcome; time = sym last.2 })).ends

pub returns-clause-measured : goal.returns-clause-measured
returns-clause-measured g c =
    let low = c.loop-step.invariant.1 in
    let high = c.loop-step-test.false in
    let at : c.loop-step.step ≡ c.args.limit = omega (arith, low, high) in
    (measured_over c.outcome_stays.ensures _ _ _ c.args.limit _ _ _ _ c.loop-step.invariant.0 low (inl at) _ c.outcome_or_limit.ensures).measured

pub returns-clause-ends : goal.returns-clause-ends
returns-clause-ends g c =
    let low = c.loop-step.invariant.1 in
    let high = c.loop-step-test.false in
    let at : c.loop-step.step ≡ c.args.limit = omega (arith, low, high) in
    (measured_over c.outcome_stays.ensures _ _ _ c.args.limit _ _ _ _ c.loop-step.invariant.0 low (inl at) _ c.outcome_or_limit.ensures).ends

pub returns-in-Some-clause-count : goal.returns-in-Some-clause-count
returns-in-Some-clause-count g c = omega (arith, c.loop-step.invariant.1, c.loop-step.invariant.2)

pub returns-clause-count : goal.returns-clause-count
returns-clause-count g c = omega (arith, c.loop-step.invariant.1, c.loop-step.invariant.2)
