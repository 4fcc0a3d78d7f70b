use Rattle.std.proofs.Common.{◌≡◌, ◌∙◌, ◌+◌, ◌≤◌, ap, arith, inl, inr, refl, subst, sym}
use Rattle.std.specs.Io.KnownBytes.{Appends}
use Rattle.machine.specs.Written.{AppendsBeginning}
use Rattle.waveforms.specs.LastValues.{HeldRows}
use Rattle.waveforms.proofs.Dumped.{broken_step, dumped_nothing, dumped_on, dumped_over}
use Rattle.waveforms.proofs.Noted.{Noted}
use Rattle.waveforms.proofs.waves_of.write_steps.Goals as goal

pub loop-taken-init : goal.loop-taken-init
loop-taken-init g c =
    let r = c.requires in
    let noted : Noted c.args.machine.now.image c.args.machine.now.schedule c.args.rows.now.lines.labels 0 c.args.rows.now =
    record { image = r.image; schedule_is = r.schedule; labels_are = refl; current = r.lines } in
    (dumped_nothing c.args.scopes.now c.args.machine.now c.args.rows.now _ _ r.stands noted r.last, omega arith, omega arith, refl)

pub loop-taken-preserved : goal.loop-taken-preserved
loop-taken-preserved g c =
    let less = c.loop-taken-test.true in
    let machine = c.step_line-line.ensures in
    let text = c.text.ensures ∙ c.step.ensures.text in
    let wrote = subst (Appends (g.S.Sink.bytes c.loop-taken.sink) (g.S.Sink.bytes c.write_all.new.sink)) text c.in-Ok.ensures.whole in (
      dumped_on _ _ _ _ _ _ _ _ _ _ _ c.loop-taken.invariant.0 c.step_line-line.new.self c.step_line-line.result machine.world (sym c.in_default.ensures.outcome) c.note.new.self c.note.ensures _
          machine.image machine.schedule c.step.new.self c.step.ensures.last c.step.ensures.lines c.step.ensures.schedule _ wrote c.in-Ok.ensures.kept,
      omega (arith, less),
      omega (arith, c.loop-taken.invariant.2, machine.one),
      c.step.ensures.room ∙ ap (λ (r : HeldRows). r.room) c.note.ensures ∙ c.loop-taken.invariant.3,
    )

pub returns-in-Err-clause-beginning : goal.returns-in-Err-clause-beginning
returns-in-Err-clause-beginning g c =
    let less = c.loop-taken-test.true in
    let le : c.loop-taken.taken + 1 ≤ c.args.limit = omega (arith, less) in
    let text = c.text.ensures ∙ c.step.ensures.text in
    broken_step _ _ _ _ _ _ _ _ _ _ _ c.loop-taken.invariant.0 c.step_line-line.new.self c.step_line-line.result c.step_line-line.ensures.world (sym c.in_default.ensures.outcome) c.note.new.self c.note.ensures _
    c.args.limit le (subst (AppendsBeginning (g.S.Sink.bytes c.loop-taken.sink) (g.S.Sink.bytes c.write_all.new.sink)) text c.in-Err.ensures.beginning)

pub returns-in-Some-clause-changes : goal.returns-in-Some-clause-changes
returns-in-Some-clause-changes g c =
    let last = c.in-Some.ensures.last in
    (dumped_over c.outcome_stays.ensures _ _ _ _ _ c.args.limit _ _ _ _ _ _ c.loop-taken.invariant.0 c.loop-taken.invariant.1 (inr (last.0, sym c.in-Some.ensures.outcome ∙ last.1)) c.in-Some.outcome
    (record { outcome = sym c.in-Some.ensures.outcome; time = sym last.2 })).written

pub returns-in-Some-clause-ends : goal.returns-in-Some-clause-ends
returns-in-Some-clause-ends g c =
    let last = c.in-Some.ensures.last in
    (dumped_over c.outcome_stays.ensures _ _ _ _ _ c.args.limit _ _ _ _ _ _ c.loop-taken.invariant.0 c.loop-taken.invariant.1 (inr (last.0, sym c.in-Some.ensures.outcome ∙ last.1)) c.in-Some.outcome
    (record { outcome = sym c.in-Some.ensures.outcome; time = sym last.2 })).ends

pub returns-in-Some-clause-taken : goal.returns-in-Some-clause-taken
returns-in-Some-clause-taken g c =
    let last = c.in-Some.ensures.last in
    (dumped_over c.outcome_stays.ensures _ _ _ _ _ c.args.limit _ _ _ _ _ _ c.loop-taken.invariant.0 c.loop-taken.invariant.1 (inr (last.0, sym c.in-Some.ensures.outcome ∙ last.1)) c.in-Some.outcome
    (record { outcome = sym c.in-Some.ensures.outcome; time = sym last.2 })).taken_is

pub returns-clause-changes : goal.returns-clause-changes
returns-clause-changes g c =
    let low = c.loop-taken.invariant.1 in
    let high = c.loop-taken-test.false in
    let at : c.loop-taken.taken ≡ c.args.limit = omega (arith, low, high) in
    (dumped_over c.outcome_stays.ensures _ _ _ _ _ c.args.limit _ _ _ _ _ _ c.loop-taken.invariant.0 low (inl at) _ c.outcome_or_limit-outcome.ensures).written

pub returns-clause-ends : goal.returns-clause-ends
returns-clause-ends g c =
    let low = c.loop-taken.invariant.1 in
    let high = c.loop-taken-test.false in
    let at : c.loop-taken.taken ≡ c.args.limit = omega (arith, low, high) in
    (dumped_over c.outcome_stays.ensures _ _ _ _ _ c.args.limit _ _ _ _ _ _ c.loop-taken.invariant.0 low (inl at) _ c.outcome_or_limit-outcome.ensures).ends

pub returns-clause-taken : goal.returns-clause-taken
returns-clause-taken g c =
    let low = c.loop-taken.invariant.1 in
    let high = c.loop-taken-test.false in
    let at : c.loop-taken.taken ≡ c.args.limit = omega (arith, low, high) in
    (dumped_over c.outcome_stays.ensures _ _ _ _ _ c.args.limit _ _ _ _ _ _ c.loop-taken.invariant.0 low (inl at) _ c.outcome_or_limit-outcome.ensures).taken_is

pub returns-in-Err-clause-count : goal.returns-in-Err-clause-count
returns-in-Err-clause-count g c = omega (arith, c.loop-taken-test.true, c.loop-taken.invariant.2, c.step_line-line.ensures.one)

pub returns-in-Some-clause-count : goal.returns-in-Some-clause-count
returns-in-Some-clause-count g c = omega (arith, c.loop-taken.invariant.1, c.loop-taken.invariant.2)

pub returns-clause-count : goal.returns-clause-count
returns-clause-count g c = omega (arith, c.loop-taken.invariant.1, c.loop-taken.invariant.2)
