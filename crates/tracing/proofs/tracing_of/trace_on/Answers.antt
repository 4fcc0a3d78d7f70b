use Rattle.std.proofs.Common.{◌≡◌, ◌∙◌, ap, length, ◌+◌, ◌≤◌, arith, inl, inr, sym}
use Rattle.tracing.specs.declared.calls.TheConstants.{ACTORS}
use Rattle.tracing.proofs.CallTimes.{one_each}
use Rattle.tracing.proofs.Traced.{broken_start, broken_step, traced_on, traced_over, traced_start}
use Rattle.tracing.proofs.tracing_of.trace_on.Goals as goal

pub returns-in-Err-clause-beginning : goal.returns-in-Err-clause-beginning
returns-in-Err-clause-beginning g c =
    broken_start c.args.image.now c.args.objects.now (g.O.Origins.known c.args.origins.now) c.args.schedule.now c.args.after.now c.requires.image c.requires.schedule c.requires.stands c.args.limit _ _ c.lines.result.now
    c.lines.ensures c.in-Err.ensures.beginning

pub loop-step-init : goal.loop-step-init
loop-step-init g c = (
  traced_start c.args.image.now c.args.objects.now (g.O.Origins.known c.args.origins.now) c.args.schedule.now c.args.after.now c.requires.image c.requires.schedule c.requires.stands
      c.args.before.now c.requires.image_before c.requires.schedule_before c.requires.stands_before _ _ _ _ _ c.requires.calls c.lines.result.now c.lines.ensures c.in-Ok.ensures.whole c.in-Ok.ensures.kept,
  omega arith,
  omega arith,
  ap length c.requires.calls ∙ one_each ACTORS,
)

pub loop-step-preserved : goal.loop-step-preserved
loop-step-preserved g c =
    let less = c.loop-step-test.true in (
      traced_on _ _ _ _ _ _ _ _ _ _ _ _ c.loop-step.invariant.0 c.ahead_of-ahead.result c.ahead_of-ahead.ensures c.step-shown.new.self c.step-shown.result c.step-shown.ensures.world (sym c.in_default.ensures.outcome) _
          c.step.new.self c.step.result c.step.ensures.world c.step.ensures.image c.step-shown.ensures.image c.step.ensures.schedule c.step-shown.ensures.schedule _ _ c.note_call.ensures.noted c.lines-in-loop-step.result.now
          c.lines-in-loop-step.ensures c.in-Ok-write_step.ensures.whole c.in-Ok-write_step.ensures.kept,
      omega (arith, less),
      omega (arith, c.loop-step.invariant.2, c.step-shown.ensures.one, c.step.ensures.one),
      c.note_call.ensures.room,
    )

pub returns-in-Err-write_step-clause-beginning : goal.returns-in-Err-write_step-clause-beginning
returns-in-Err-write_step-clause-beginning g c =
    let less = c.loop-step-test.true in
    let le : c.loop-step.step + 1 ≤ c.args.limit = omega (arith, less) in
    broken_step _ _ _ _ _ _ _ _ _ _ _ _ c.loop-step.invariant.0 c.ahead_of-ahead.result c.ahead_of-ahead.ensures c.step-shown.new.self c.step-shown.result c.step-shown.ensures.world (sym c.in_default.ensures.outcome) _ c.args.limit le
    c.lines-in-loop-step.result.now c.lines-in-loop-step.ensures c.in-Err-write_step.ensures.beginning

pub returns-in-Some-clause-rows : goal.returns-in-Some-clause-rows
returns-in-Some-clause-rows g c =
    let last = c.in-Some.ensures.last in
    (traced_over c.outcome_stays.ensures _ _ _ _ _ c.args.limit _ _ _ _ _ _ _ c.loop-step.invariant.0 c.loop-step.invariant.1 (inr (last.0, sym c.in-Some.ensures.outcome ∙ last.1)) c.in-Some.outcome
    (record { outcome = sym c.in-Some.ensures.outcome; time = sym last.2 })).written

pub returns-in-Some-clause-ends : goal.returns-in-Some-clause-ends
returns-in-Some-clause-ends g c =
    let last = c.in-Some.ensures.last in
    (traced_over c.outcome_stays.ensures _ _ _ _ _ c.args.limit _ _ _ _ _ _ _ c.loop-step.invariant.0 c.loop-step.invariant.1 (inr (last.0, sym c.in-Some.ensures.outcome ∙ last.1)) c.in-Some.outcome
    (record { outcome = sym c.in-Some.ensures.outcome; time = sym last.2 })).ends

pub returns-clause-rows : goal.returns-clause-rows
returns-clause-rows g c =
    let low = c.loop-step.invariant.1 in
    let high = c.loop-step-test.false in
    let at : c.loop-step.step ≡ c.args.limit = omega (arith, low, high) in
    (traced_over c.outcome_stays.ensures _ _ _ _ _ c.args.limit _ _ _ _ _ _ _ c.loop-step.invariant.0 low (inl at) _ c.outcome_or_limit.ensures).written

pub returns-clause-ends : goal.returns-clause-ends
returns-clause-ends g c =
    let low = c.loop-step.invariant.1 in
    let high = c.loop-step-test.false in
    let at : c.loop-step.step ≡ c.args.limit = omega (arith, low, high) in
    (traced_over c.outcome_stays.ensures _ _ _ _ _ c.args.limit _ _ _ _ _ _ _ c.loop-step.invariant.0 low (inl at) _ c.outcome_or_limit.ensures).ends

pub returns-in-Err-write_step-clause-count : goal.returns-in-Err-write_step-clause-count
returns-in-Err-write_step-clause-count g c = omega (arith, c.loop-step-test.true, c.loop-step.invariant.2, c.step-shown.ensures.one)

pub returns-in-Some-clause-count : goal.returns-in-Some-clause-count
returns-in-Some-clause-count g c = omega (arith, c.loop-step.invariant.1, c.loop-step.invariant.2)

pub returns-clause-count : goal.returns-clause-count
returns-clause-count g c = omega (arith, c.loop-step.invariant.1, c.loop-step.invariant.2)
