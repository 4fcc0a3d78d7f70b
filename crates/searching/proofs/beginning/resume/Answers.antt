use Rattle.std.proofs.Common.{◌≡◌, ◌≤◌, drop, length, rules, subst, sym, ◌∙◌, of_z, to_z, w64}
use Rattle.std.specs.Prelude.{int_lt}
use Rattle.std.specs.List.{prefix_len}
use Rattle.image.specs.Attachments.{interrupts}
use Rattle.image_laws.specs.Whole.{IsWhole}
use Rattle.execution.specs.Saving.{HasAllRows, world_in}
use Rattle.tasking.specs.Held.{kernel_of}
use Rattle.searching.specs.Following.{Standing}
use Rattle.searching.specs.Meeting.{schedule_of}
use Rattle.searching.proofs.Resuming.{passed_is, resumed_stands, resumed_whole, tail}
use Rattle.searching.proofs.beginning.resume.Goals as goal

pub resume-requires-clause-fits : goal.resume-requires-clause-fits
resume-requires-clause-fits c =
    let is = c.requires.checkpoint.2 in
    subst (λ i. HasAllRows i c.contents.result.now) (sym (c.into_inner.ensures ∙ c.requires.rooms))
    (subst (HasAllRows c.args.image.now) (sym c.contents.ensures) (subst (λ i. HasAllRows i c.args.checkpoint.now.world.contents) is.stands.image is.seen.contents.fits))

pub resume-requires-clause-passed : goal.resume-requires-clause-passed
resume-requires-clause-passed c = subst (λ l. c.count_before-passed.result ≤ length l) c.lines.ensures c.count_before-passed.ensures.within

pub resume-requires-clause-whole : goal.resume-requires-clause-whole
resume-requires-clause-whole c =
    let i = c.args.image.now in
    let slots = c.args.choices.now in
    let places = c.args.choice.now in
    let cp = c.args.checkpoint.now in
    let until = c.requires.checkpoint.0 in
    let wanted = c.requires.checkpoint.1 in
    let is = c.requires.checkpoint.2 in
    let stays = c.outcome_stays.ensures in
    let lawful = c.slots-slots.ensures.lawful in
    let rest = tail stays i slots lawful until c.args.limit wanted cp is places c.requires.within c.requires.on_way in
    let t : to_z w64 (of_z w64 c.time.result) ≡ cp.time = search (rules, c.time.ensures) in
    let count : c.count_before-passed.result ≡ prefix_len (λ l. int_lt l.time cp.time) c.args.schedule.now =
    c.count_before-passed.ensures.same ∙ (λ j. prefix_len (λ l. int_lt l.time (t j)) (c.lines.ensures j)) in
    let left = passed_is stays i slots lawful until c.args.limit wanted cp is places c.requires.within c.requires.on_way c.args.schedule.now c.count_before-passed.result
    c.requires.schedule count in
    subst (λ r. IsWhole r (world_in r c.contents.result.now c.pause.result.now (interrupts r (drop c.count_before-passed.result c.args.schedule.now)))) (sym (c.into_inner.ensures ∙ c.requires.rooms))
    (subst (λ x. IsWhole i (world_in i x c.pause.result.now (interrupts i (drop c.count_before-passed.result c.args.schedule.now)))) (sym c.contents.ensures)
    (subst (λ p. IsWhole i (world_in i cp.world.contents p (interrupts i (drop c.count_before-passed.result c.args.schedule.now)))) (sym c.pause.ensures)
    (subst (λ l. IsWhole i (world_in i cp.world.contents cp.pause (interrupts i l))) (sym left)
    (resumed_whole stays i slots lawful until c.args.limit wanted cp is places c.requires.within c.requires.on_way c.kept_with_lines.ensures
    c.instructions-instructions.ensures.well_formed c.steps_whole.ensures.starts c.steps_whole.ensures.steps))))

pub returns-clause-image : goal.returns-clause-image
returns-clause-image c = c.in_ok-execution.ensures.image ∙ (c.into_inner.ensures ∙ c.requires.rooms)

pub returns-clause-stands : goal.returns-clause-stands
returns-clause-stands c = λ until wanted is.
    let i = c.args.image.now in
    let slots = c.args.choices.now in
    let places = c.args.choice.now in
    let cp = c.args.checkpoint.now in
    let stays = c.outcome_stays.ensures in
    let lawful = c.slots-slots.ensures.lawful in
    let h = c.in_ok-execution.execution in
    let t : to_z w64 (of_z w64 c.time.result) ≡ cp.time = search (rules, c.time.ensures) in
    let count : c.count_before-passed.result ≡ prefix_len (λ l. int_lt l.time cp.time) c.args.schedule.now =
    c.count_before-passed.ensures.same ∙ (λ j. prefix_len (λ l. int_lt l.time (t j)) (c.lines.ensures j)) in
    let left = passed_is stays i slots lawful until c.args.limit wanted cp is places c.requires.within c.requires.on_way c.args.schedule.now c.count_before-passed.result
    c.requires.schedule count in
    let rooms = c.into_inner.ensures ∙ c.requires.rooms in
    let world = c.in_ok-execution.ensures.world
    ∙ (λ j. world_in (rooms j) (c.contents.ensures j) (c.pause.ensures j) (interrupts (rooms j) (left j))) in
    let stands = resumed_stands stays i slots lawful until c.args.limit wanted cp is places c.requires.within c.requires.on_way h (c.in_ok-execution.ensures.image ∙ (c.into_inner.ensures ∙ c.requires.rooms))
    (c.in_ok-execution.ensures.schedule ∙ c.requires.schedule) world in
    subst (λ s. Standing i s until c.args.limit wanted h (kernel_of h.tasking).now cp.left) (sym c.requires.schedule)
    (subst (λ n. Standing i (schedule_of slots places) until c.args.limit wanted h n cp.left) stands.now_is stands)
