use Rattle.std.proofs.Common.{◌++◌, ◌<◌, refl, subst, sym}
use Rattle.choices.proofs.Lawful.{each_lawful}
use Rattle.set_measures.specs.Choices.{schedules_of}
use Rattle.set_measures.specs.Text.{schedules_text}
use Rattle.set_measures.proofs.Going.{fewer_runs, runs_left}
use Rattle.set_measures.proofs.Written.{Writing, writing_first, writing_next}
use Rattle.set_measures.proofs.reporting.add_schedules.Goals as goal

pub loop-is_more-init : goal.loop-is_more-init
loop-is_more-init c =
    let slots = c.args.choices.now in
    let whole = c.args.text.now.items ++ schedules_text c.args.form c.args.rows.now 1 (schedules_of slots) in
    writing_first c.args.form c.args.rows.now slots whole (each_lawful slots c.slots-slots.ensures.lawful) c.in_ok-choice.choice c.args.text.now.items
    c.in_ok-choice.ensures.first c.in_ok-choice.ensures.within refl

pub loop-is_more-smaller : goal.loop-is_more-smaller
loop-is_more-smaller c =
    let slots = c.args.choices.now in
    let more = c.advance-is_more.result in
    let after = c.advance-is_more.new.self in
    subst (λ b. runs_left slots more after < runs_left slots b c.loop-is_more.choice) (sym c.loop-is_more-test.true)
    (fewer_runs slots (each_lawful slots c.slots-slots.ensures.lawful) more c.loop-is_more.choice after c.advance-is_more.ensures)

pub loop-is_more-preserved : goal.loop-is_more-preserved
loop-is_more-preserved c =
    let slots = c.args.choices.now in
    let whole = c.args.text.now.items ++ schedules_text c.args.form c.args.rows.now 1 (schedules_of slots) in
    let written =
    subst (λ b. Writing c.args.form c.args.rows.now slots whole b c.loop-is_more.choice c.loop-is_more.number c.loop-is_more.text.items)
    c.loop-is_more-test.true c.loop-is_more.invariant in
    writing_next c.args.form c.args.rows.now slots whole c.advance-is_more.result c.loop-is_more.choice c.advance-is_more.new.self c.loop-is_more.number
    c.saturating_add-number.result c.loop-is_more.text.items c.add_named.new.text.items written c.in_ok-add_named.ensures c.saturating_add-number.ensures
    c.advance-is_more.ensures
