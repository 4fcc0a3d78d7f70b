use Rattle.std.proofs.Common.{◌++◌, ◌∷◌, ◌<◌, [], of_z, subst, sym, to_z, w64}
use Rattle.choices.proofs.Lawful.{each_lawful}
use Rattle.set_measures.specs.Choices.{schedule_of}
use Rattle.set_measures.specs.Sets.{IsMeasuredOn}
use Rattle.set_measures.specs.Stepping.{Left}
use Rattle.set_measures.proofs.Going.{fewer_runs, left_first, left_next, runs_left}
use Rattle.set_measures.proofs.set.measure_set.Goals as goal

pub loop-is_more-init : goal.loop-is_more-init
loop-is_more-init g c =
    let slots = c.args.choices.now in (
      [],
      c.in_ok-measures.ensures (to_z w64 (of_z w64 c.args.until)) c.args.limit,
      left_first slots (each_lawful slots c.slots-slots.ensures.lawful) c.in_ok-choice.choice c.in_ok-choice.ensures.first c.in_ok-choice.ensures.within,
    )

pub loop-is_more-smaller : goal.loop-is_more-smaller
loop-is_more-smaller g c =
    let slots = c.args.choices.now in
    let more = c.advance-is_more.result in
    let after = c.advance-is_more.new.self in
    subst (λ b. runs_left slots more after < runs_left slots b c.loop-is_more.choice) (sym c.loop-is_more-test.true)
    (fewer_runs slots (each_lawful slots c.slots-slots.ensures.lawful) more c.loop-is_more.choice after c.advance-is_more.ensures)

pub loop-is_more-preserved : goal.loop-is_more-preserved
loop-is_more-preserved g c =
    let slots = c.args.choices.now in
    let places = c.loop-is_more.choice in
    let passed = c.loop-is_more.invariant.0 in
    let left = subst (λ b. Left b slots passed places) c.loop-is_more-test.true c.loop-is_more.invariant.2 in
    let until = to_z w64 (of_z w64 c.args.until) in
    let measured = c.in_ok-add_run.ensures.measured passed c.loop-is_more.invariant.1 in (
      passed ++ schedule_of slots places ∷ [],
      subst (λ s. IsMeasuredOn c.args.image.now (passed ++ s ∷ []) until c.args.limit c.add_run.new.self) c.in_ok-schedule.ensures.lines measured,
      left_next slots c.advance-is_more.result passed places c.advance-is_more.new.self left c.advance-is_more.ensures,
    )
