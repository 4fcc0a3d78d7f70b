use Rattle.std.proofs.Common.{◌≡◌, ◌∙◌, ◌+◌, ◌≤◌, ap, arith, inl, inr, of_z, refl, rules, sym, to_z, w64}
use Rattle.waveforms.specs.LastValues.{HeldRows}
use Rattle.waveforms.proofs.Noted.{Noted}
use Rattle.waveforms.proofs.Timed.{broken_instant, timed_nothing, timed_on, timed_over}
use Rattle.waveforms.proofs.instants.write_all_ended.Goals as goal

pub loop-taken-init : goal.loop-taken-init
loop-taken-init g c =
    let r = c.requires in
    let noted : Noted c.args.machine.now.image c.args.machine.now.schedule c.args.rows.now.lines.labels 0 c.args.rows.now =
    record { image = r.image; schedule_is = r.schedule; labels_are = refl; current = r.lines } in
    (timed_nothing c.args.scopes.now c.args.machine.now c.args.rows.now _ _ r.stands noted r.none, omega arith, omega arith, refl)

pub loop-taken-preserved : goal.loop-taken-preserved
loop-taken-preserved g c =
    let less = c.loop-taken-test.true in
    let machine = c.step_line-line.ensures in
    let ended = c.write_ended.ensures in
    let same : to_z w64 (of_z w64 c.now-time.result) ≡ c.now-time.result = search rules in (
      timed_on _ _ _ _ _ _ _ _ _ _ _ c.loop-taken.invariant.0 c.step_line-line.new.self c.step_line-line.result machine.world (to_z w64 (of_z w64 c.now-time.result)) (same ∙ c.now-time.ensures)
          c.note.new.self c.note.ensures _ machine.image machine.schedule c.write_ended.new.rows ended.image ended.schedule ended.labels ended.current c.in-Ok.ensures.dumped _
          c.in-Ok.ensures.whole c.in-Ok.ensures.kept,
      omega (arith, less),
      omega (arith, c.loop-taken.invariant.2, machine.one),
      ended.room ∙ ap (λ (r : HeldRows). r.room) c.note.ensures ∙ c.loop-taken.invariant.3,
    )

pub returns-in-Err-clause-beginning : goal.returns-in-Err-clause-beginning
returns-in-Err-clause-beginning g c =
    let less = c.loop-taken-test.true in
    let le : c.loop-taken.taken + 1 ≤ c.args.limit = omega (arith, less) in
    let same : to_z w64 (of_z w64 c.now-time.result) ≡ c.now-time.result = search rules in
    broken_instant _ _ _ _ _ _ _ _ _ _ _ c.loop-taken.invariant.0 c.step_line-line.new.self c.step_line-line.result c.step_line-line.ensures.world (to_z w64 (of_z w64 c.now-time.result)) (same ∙ c.now-time.ensures)
    c.note.new.self c.note.ensures _ c.args.limit le c.in-Err.ensures.beginning

pub returns-in-Some-clause-stands : goal.returns-in-Some-clause-stands
returns-in-Some-clause-stands g c =
    let last = c.in-Some.ensures.last in
    (timed_over c.outcome_stays.ensures _ _ _ _ _ c.args.limit _ _ _ _ _ _ c.loop-taken.invariant.0 c.loop-taken.invariant.1 (inr (last.0, sym c.in-Some.ensures.outcome ∙ last.1)) c.in-Some.outcome
    (record { outcome = sym c.in-Some.ensures.outcome; time = sym last.2 })).stands

pub returns-in-Some-clause-dumped : goal.returns-in-Some-clause-dumped
returns-in-Some-clause-dumped g c =
    let last = c.in-Some.ensures.last in
    (timed_over c.outcome_stays.ensures _ _ _ _ _ c.args.limit _ _ _ _ _ _ c.loop-taken.invariant.0 c.loop-taken.invariant.1 (inr (last.0, sym c.in-Some.ensures.outcome ∙ last.1)) c.in-Some.outcome
    (record { outcome = sym c.in-Some.ensures.outcome; time = sym last.2 })).dumped_is

pub returns-in-Some-clause-current : goal.returns-in-Some-clause-current
returns-in-Some-clause-current g c =
    let last = c.in-Some.ensures.last in
    (timed_over c.outcome_stays.ensures _ _ _ _ _ c.args.limit _ _ _ _ _ _ c.loop-taken.invariant.0 c.loop-taken.invariant.1 (inr (last.0, sym c.in-Some.ensures.outcome ∙ last.1)) c.in-Some.outcome
    (record { outcome = sym c.in-Some.ensures.outcome; time = sym last.2 })).current

pub returns-in-Some-clause-text : goal.returns-in-Some-clause-text
returns-in-Some-clause-text g c =
    let last = c.in-Some.ensures.last in
    (timed_over c.outcome_stays.ensures _ _ _ _ _ c.args.limit _ _ _ _ _ _ c.loop-taken.invariant.0 c.loop-taken.invariant.1 (inr (last.0, sym c.in-Some.ensures.outcome ∙ last.1)) c.in-Some.outcome
    (record { outcome = sym c.in-Some.ensures.outcome; time = sym last.2 })).written

pub returns-in-Some-clause-ends : goal.returns-in-Some-clause-ends
returns-in-Some-clause-ends g c =
    let last = c.in-Some.ensures.last in
    (timed_over c.outcome_stays.ensures _ _ _ _ _ c.args.limit _ _ _ _ _ _ c.loop-taken.invariant.0 c.loop-taken.invariant.1 (inr (last.0, sym c.in-Some.ensures.outcome ∙ last.1)) c.in-Some.outcome
    (record { outcome = sym c.in-Some.ensures.outcome; time = sym last.2 })).ends

pub returns-clause-stands : goal.returns-clause-stands
returns-clause-stands g c =
    let low = c.loop-taken.invariant.1 in
    let high = c.loop-taken-test.false in
    let at : c.loop-taken.taken ≡ c.args.limit = omega (arith, low, high) in
    (timed_over c.outcome_stays.ensures _ _ _ _ _ c.args.limit _ _ _ _ _ _ c.loop-taken.invariant.0 low (inl at) _ c.outcome_or_limit.ensures).stands

pub returns-clause-dumped : goal.returns-clause-dumped
returns-clause-dumped g c =
    let low = c.loop-taken.invariant.1 in
    let high = c.loop-taken-test.false in
    let at : c.loop-taken.taken ≡ c.args.limit = omega (arith, low, high) in
    (timed_over c.outcome_stays.ensures _ _ _ _ _ c.args.limit _ _ _ _ _ _ c.loop-taken.invariant.0 low (inl at) _ c.outcome_or_limit.ensures).dumped_is

pub returns-clause-current : goal.returns-clause-current
returns-clause-current g c =
    let low = c.loop-taken.invariant.1 in
    let high = c.loop-taken-test.false in
    let at : c.loop-taken.taken ≡ c.args.limit = omega (arith, low, high) in
    (timed_over c.outcome_stays.ensures _ _ _ _ _ c.args.limit _ _ _ _ _ _ c.loop-taken.invariant.0 low (inl at) _ c.outcome_or_limit.ensures).current

pub returns-in-Some-clause-schedule : goal.returns-in-Some-clause-schedule
returns-in-Some-clause-schedule g c = c.loop-taken.invariant.0.noted.schedule_is ∙ sym c.requires.schedule

pub returns-clause-schedule : goal.returns-clause-schedule
returns-clause-schedule g c = c.loop-taken.invariant.0.noted.schedule_is ∙ sym c.requires.schedule

pub returns-clause-text : goal.returns-clause-text
returns-clause-text g c =
    let low = c.loop-taken.invariant.1 in
    let high = c.loop-taken-test.false in
    let at : c.loop-taken.taken ≡ c.args.limit = omega (arith, low, high) in
    (timed_over c.outcome_stays.ensures _ _ _ _ _ c.args.limit _ _ _ _ _ _ c.loop-taken.invariant.0 low (inl at) _ c.outcome_or_limit.ensures).written

pub returns-clause-ends : goal.returns-clause-ends
returns-clause-ends g c =
    let low = c.loop-taken.invariant.1 in
    let high = c.loop-taken-test.false in
    let at : c.loop-taken.taken ≡ c.args.limit = omega (arith, low, high) in
    (timed_over c.outcome_stays.ensures _ _ _ _ _ c.args.limit _ _ _ _ _ _ c.loop-taken.invariant.0 low (inl at) _ c.outcome_or_limit.ensures).ends

pub returns-in-Err-clause-count : goal.returns-in-Err-clause-count
returns-in-Err-clause-count g c = omega (arith, c.loop-taken-test.true, c.loop-taken.invariant.2, c.step_line-line.ensures.one)

pub returns-in-Some-clause-count : goal.returns-in-Some-clause-count
returns-in-Some-clause-count g c = omega (arith, c.loop-taken.invariant.1, c.loop-taken.invariant.2)

pub returns-clause-count : goal.returns-clause-count
returns-clause-count g c = omega (arith, c.loop-taken.invariant.1, c.loop-taken.invariant.2)
