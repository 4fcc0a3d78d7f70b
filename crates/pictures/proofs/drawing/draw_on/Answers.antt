use Rattle.std.proofs.Common.{◌≡◌, ◌∙◌, ap, length, arith, inl, inr, sym}
use Rattle.tracing.specs.declared.calls.TheConstants.{ACTORS}
use Rattle.pictures.proofs.Drawn.{drawn_on, drawn_over, drawn_start, one_each}
use Rattle.pictures.proofs.drawing.draw_on.Goals as goal

pub loop-step-init : goal.loop-step-init
loop-step-init g c = (
  drawn_start c.args.frame c.args.image.now c.args.names.now c.args.schedule.now c.args.before.now c.args.after.now c.requires.image_before c.requires.image c.requires.schedule_before c.requires.schedule
      c.requires.stands_before c.requires.stands _ c.requires.calls c.lines-lines.result.now c.lines-lines.ensures _ _ c.in_ok-draw_start.ensures,
  omega arith,
  omega arith,
  ap length c.requires.calls ∙ one_each ACTORS,
)

pub loop-step-preserved : goal.loop-step-preserved
loop-step-preserved g c =
    let less = c.loop-step-test.true in (
      drawn_on _ _ _ _ _ _ _ _ _ _ c.loop-step.invariant.0 c.ahead_of-ahead.result c.ahead_of-ahead.ensures c.step-shown.new.self c.step-shown.result c.step-shown.ensures.world (sym c.in_default.ensures.outcome)
          c.step.new.self c.step.result c.step.ensures.world c.step.ensures.image c.step-shown.ensures.image c.step.ensures.schedule c.step-shown.ensures.schedule _ c.note_call.ensures.noted
          c.lines-lines.result.now c.lines-lines.ensures _ c.in_ok-draw_step.ensures,
      omega (arith, less),
      omega (arith, c.loop-step.invariant.2, c.step-shown.ensures.one, c.step.ensures.one),
      c.note_call.ensures.room,
    )

pub returns-in-Some-clause-rows : goal.returns-in-Some-clause-rows
returns-in-Some-clause-rows g c =
    let last = c.in-Some.ensures.last in
    (drawn_over c.outcome_stays.ensures _ _ _ _ _ c.args.limit _ _ _ _ _ c.loop-step.invariant.0 c.loop-step.invariant.1 (inr (last.0, sym c.in-Some.ensures.outcome ∙ last.1)) c.in-Some.outcome
    (record { outcome = sym c.in-Some.ensures.outcome; time = sym last.2 })).drawn

pub returns-in-Some-clause-ends : goal.returns-in-Some-clause-ends
returns-in-Some-clause-ends g c =
    let last = c.in-Some.ensures.last in
    (drawn_over c.outcome_stays.ensures _ _ _ _ _ c.args.limit _ _ _ _ _ c.loop-step.invariant.0 c.loop-step.invariant.1 (inr (last.0, sym c.in-Some.ensures.outcome ∙ last.1)) c.in-Some.outcome
    (record { outcome = sym c.in-Some.ensures.outcome; time = sym last.2 })).ends

pub returns-clause-rows : goal.returns-clause-rows
returns-clause-rows g c =
    let low = c.loop-step.invariant.1 in
    let high = c.loop-step-test.false in
    let at : c.loop-step.step ≡ c.args.limit = omega (arith, low, high) in
    (drawn_over c.outcome_stays.ensures _ _ _ _ _ c.args.limit _ _ _ _ _ c.loop-step.invariant.0 low (inl at) _ c.outcome_or_limit.ensures).drawn

pub returns-clause-ends : goal.returns-clause-ends
returns-clause-ends g c =
    let low = c.loop-step.invariant.1 in
    let high = c.loop-step-test.false in
    let at : c.loop-step.step ≡ c.args.limit = omega (arith, low, high) in
    (drawn_over c.outcome_stays.ensures _ _ _ _ _ c.args.limit _ _ _ _ _ c.loop-step.invariant.0 low (inl at) _ c.outcome_or_limit.ensures).ends

pub returns-in-Some-clause-count : goal.returns-in-Some-clause-count
returns-in-Some-clause-count g c = omega (arith, c.loop-step.invariant.1, c.loop-step.invariant.2)

pub returns-clause-count : goal.returns-clause-count
returns-clause-count g c = omega (arith, c.loop-step.invariant.1, c.loop-step.invariant.2)
