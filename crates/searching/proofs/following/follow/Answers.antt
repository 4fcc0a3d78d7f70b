use Rattle.std.proofs.Common.{◌≡◌, ◌∙◌, None, Some, ap, inl, inr, of_z, true, false, ◌<◌, rules, subst, sym, to_z, w64, ⊎_elim}
use Rattle.std.specs.Prelude.{IfSome}
use Rattle.base.specs.Schedule.{is_schedule}
use Rattle.execution.specs.Held.{lines_of, line_of, world_of}
use Rattle.execution.specs.declared.line.Line.{Line}
use Rattle.tasking.specs.Held.{kernel_of, some_outcome}
use Rattle.searching.specs.Following.{AreCheckpoints, AreKeptRows, ComesAlong, EndsAs, HasMetQuietly, Standing}
use Rattle.searching.specs.Judging.{FoundLine}
use Rattle.searching.specs.Meeting.{schedule_of}
use Rattle.searching.specs.Searches.{AnswersRun}
use Rattle.searching.specs.declared.one.Answer.TheVariants as answers
use Rattle.searching.specs.declared.sight.Finding.TheVariants as findings
use Rattle.searching.proofs.Along.{along_ended, steps_on}
use Rattle.searching.proofs.Standing.{answer_line, answer_long, answer_past, behind_cases, le_of, less_later, less_same, not_back, past_of, stands_next}
use Rattle.searching.proofs.following.follow.Goals as goal

pub loop-now-init : goal.loop-now-init
loop-now-init g c =
    let i = c.args.execution.now.image in
    let u : to_z w64 (of_z w64 c.args.until) ≡ c.args.until = search rules in
    let same : to_z w64 (of_z w64 c.time_of-now.result) ≡ c.time_of-now.result = search rules in (
      subst (λ z. Standing i c.args.schedule.now z c.args.limit c.args.wanted c.args.execution.now (to_z w64 (of_z w64 c.time_of-now.result)) c.args.midst.left) (sym u)
          (subst (λ n. Standing i c.args.schedule.now c.args.until c.args.limit c.args.wanted c.args.execution.now n c.args.midst.left) (sym (same ∙ c.time_of-now.ensures))
          c.requires.start),
      subst (λ z. AreCheckpoints i c.args.choices.now z c.args.limit c.args.wanted c.args.path.now) (sym u) c.requires.checkpoints,
      c.requires.rows,
    )

pub returns-in-Some-clause-answer : goal.returns-in-Some-clause-answer
returns-in-Some-clause-answer g c =
    let i = c.args.execution.now.image in
    let slots = c.args.choices.now in
    let part = c.args.part in
    let places = c.args.choice.now in
    let until = to_z w64 (of_z w64 c.args.until) in
    let u : until ≡ c.args.until = search rules in
    let limit = c.args.limit in
    let wanted = c.args.wanted in
    let now = to_z w64 c.loop-now.now-bits in
    let h = c.loop-now.execution in
    let left = c.loop-now.left in
    let own = subst (λ s. Standing i s until limit wanted h now left) c.requires.schedule c.loop-now.invariant.0 in
    let lawful = subst (λ s. is_schedule s ≡ true) c.requires.schedule c.requires.lawful in
    let ended = subst (λ s. EndsAs s wanted c.in-Some.outcome now (world_of h).kernel c.ended.result) c.slots-slots.ensures.same c.ended.ensures in
    subst (λ z. ComesAlong i slots part z limit wanted places c.ended.result) u
    (along_ended i slots part places until limit wanted h now left own c.left_unmoved.ensures c.outcome_stays.ensures lawful (le_of _ _ c.loop-now-test.true)
    c.in-Some.outcome c.ended.result (ap some_outcome (sym c.in-Some.is) ∙ c.ending_of.ensures) ended)

pub returns-in-Some-clause-image : goal.returns-in-Some-clause-image
returns-in-Some-clause-image g c = c.loop-now.invariant.0.image

pub returns-in-Some-clause-checkpoints : goal.returns-in-Some-clause-checkpoints
returns-in-Some-clause-checkpoints g c =
    let u : to_z w64 (of_z w64 c.args.until) ≡ c.args.until = search rules in
    subst (λ z. AreCheckpoints c.args.execution.now.image c.args.choices.now z c.args.limit c.args.wanted c.loop-now.path) u c.loop-now.invariant.1

pub returns-in-Some-clause-rows : goal.returns-in-Some-clause-rows
returns-in-Some-clause-rows g c = c.loop-now.invariant.2

pub returns-then-left-eq0-clause-answer : goal.returns-then-left-eq0-clause-answer
returns-then-left-eq0-clause-answer g c =
    let i = c.args.execution.now.image in
    let slots = c.args.choices.now in
    let part = c.args.part in
    let places = c.args.choice.now in
    let until = to_z w64 (of_z w64 c.args.until) in
    let u : until ≡ c.args.until = search rules in
    let limit = c.args.limit in
    let wanted = c.args.wanted in
    let now = to_z w64 c.loop-now.now-bits in
    let h = c.loop-now.execution in
    let left = c.loop-now.left in
    let own = subst (λ s. Standing i s until limit wanted h now left) c.requires.schedule c.loop-now.invariant.0 in
    subst (λ z. AnswersRun i (schedule_of slots places) z limit wanted (answers.TooLong now)) u
    (answer_long i (schedule_of slots places) until limit wanted h now left own (le_of _ _ c.loop-now-test.true) (ap some_outcome (sym c.in-None.is) ∙ c.ending_of.ensures)
    c.if-left-eq0.true)

pub returns-then-left-eq0-clause-image : goal.returns-then-left-eq0-clause-image
returns-then-left-eq0-clause-image g c = c.loop-now.invariant.0.image

pub returns-then-left-eq0-clause-checkpoints : goal.returns-then-left-eq0-clause-checkpoints
returns-then-left-eq0-clause-checkpoints g c =
    let u : to_z w64 (of_z w64 c.args.until) ≡ c.args.until = search rules in
    subst (λ z. AreCheckpoints c.args.execution.now.image c.args.choices.now z c.args.limit c.args.wanted c.loop-now.path) u c.loop-now.invariant.1

pub returns-then-left-eq0-clause-rows : goal.returns-then-left-eq0-clause-rows
returns-then-left-eq0-clause-rows g c = c.loop-now.invariant.2

pub returns-in-Some-wanted_line-clause-answer : goal.returns-in-Some-wanted_line-clause-answer
returns-in-Some-wanted_line-clause-answer g c =
    let i = c.args.execution.now.image in
    let slots = c.args.choices.now in
    let part = c.args.part in
    let places = c.args.choice.now in
    let until = to_z w64 (of_z w64 c.args.until) in
    let u : until ≡ c.args.until = search rules in
    let limit = c.args.limit in
    let wanted = c.args.wanted in
    let now = to_z w64 c.loop-now.now-bits in
    let h = c.loop-now.execution in
    let left = c.loop-now.left in
    let own = subst (λ s. Standing i s until limit wanted h now left) c.requires.schedule c.loop-now.invariant.0 in
    let next = c.step-told.new.self in
    let none : (kernel_of h.tasking).outcome ≡ None = sym (ap some_outcome (sym c.in-None.is) ∙ c.ending_of.ensures) in
    let line = c.in-Some-wanted_line.line in
    let found = subst (λ x. FoundLine true x wanted until (line_of x line)) c.image.ensures c.in-Some-wanted_line.ensures.1 in
    subst (λ z. AnswersRun i (schedule_of slots places) z limit wanted (answers.Found (findings.Line line))) u
    (answer_line i (schedule_of slots places) until limit wanted h now left own next c.step-told.result (c.step-told.ensures.leads none) line
    c.in-Some-wanted_line.ensures.0 found)

pub returns-in-Some-wanted_line-clause-image : goal.returns-in-Some-wanted_line-clause-image
returns-in-Some-wanted_line-clause-image g c =
    let none : (kernel_of c.loop-now.execution.tasking).outcome ≡ None = sym (ap some_outcome (sym c.in-None.is) ∙ c.ending_of.ensures) in
    (c.step-told.ensures.leads none).image ∙ c.loop-now.invariant.0.image

pub returns-in-Some-wanted_line-clause-checkpoints : goal.returns-in-Some-wanted_line-clause-checkpoints
returns-in-Some-wanted_line-clause-checkpoints g c =
    let u : to_z w64 (of_z w64 c.args.until) ≡ c.args.until = search rules in
    subst (λ z. AreCheckpoints c.args.execution.now.image c.args.choices.now z c.args.limit c.args.wanted c.loop-now.path) u c.loop-now.invariant.1

pub returns-in-Some-wanted_line-clause-rows : goal.returns-in-Some-wanted_line-clause-rows
returns-in-Some-wanted_line-clause-rows g c = c.loop-now.invariant.2

pub returns-in-Some-met-clause-answer : goal.returns-in-Some-met-clause-answer
returns-in-Some-met-clause-answer g c =
    let i = c.args.execution.now.image in
    let slots = c.args.choices.now in
    let part = c.args.part in
    let places = c.args.choice.now in
    let until = to_z w64 (of_z w64 c.args.until) in
    let u : until ≡ c.args.until = search rules in
    let limit = c.args.limit in
    let wanted = c.args.wanted in
    let now = to_z w64 c.loop-now.now-bits in
    let h = c.loop-now.execution in
    let left = c.loop-now.left in
    let own = subst (λ s. Standing i s until limit wanted h now left) c.requires.schedule c.loop-now.invariant.0 in
    let next = c.step-told.new.self in
    let none : (kernel_of h.tasking).outcome ≡ None = sym (ap some_outcome (sym c.in-None.is) ∙ c.ending_of.ensures) in
    let leads = c.step-told.ensures.leads none in
    let steps = steps_on i slots part places until limit wanted h now left own next (lines_of h.image c.step-told.result) c.requires.within c.requires.is_of leads in
    let rows = subst (λ x. AreKeptRows x slots part c.loop-now.table) (sym own.image) c.loop-now.invariant.2 in
    let met = subst (λ o. IfSome o (HasMetQuietly h.image slots part until wanted places)) c.in-Some-met.is
    (c.in_ok-met.ensures.met h until limit wanted now steps c.in_ok-moment.ensures rows) in
    subst (λ z. HasMetQuietly i slots part z wanted places c.in-Some-met.met) u
    (subst (λ x. HasMetQuietly x slots part until wanted places c.in-Some-met.met) own.image met)

pub returns-in-Some-met-clause-image : goal.returns-in-Some-met-clause-image
returns-in-Some-met-clause-image g c =
    let none : (kernel_of c.loop-now.execution.tasking).outcome ≡ None = sym (ap some_outcome (sym c.in-None.is) ∙ c.ending_of.ensures) in
    (c.step-told.ensures.leads none).image ∙ c.loop-now.invariant.0.image

pub returns-in-Some-met-clause-checkpoints : goal.returns-in-Some-met-clause-checkpoints
returns-in-Some-met-clause-checkpoints g c =
    let i = c.args.execution.now.image in
    let slots = c.args.choices.now in
    let part = c.args.part in
    let places = c.args.choice.now in
    let until = to_z w64 (of_z w64 c.args.until) in
    let u : until ≡ c.args.until = search rules in
    let limit = c.args.limit in
    let wanted = c.args.wanted in
    let now = to_z w64 c.loop-now.now-bits in
    let h = c.loop-now.execution in
    let left = c.loop-now.left in
    let own = subst (λ s. Standing i s until limit wanted h now left) c.requires.schedule c.loop-now.invariant.0 in
    let next = c.step-told.new.self in
    let none : (kernel_of h.tasking).outcome ≡ None = sym (ap some_outcome (sym c.in-None.is) ∙ c.ending_of.ensures) in
    let leads = c.step-told.ensures.leads none in
    let steps = steps_on i slots part places until limit wanted h now left own next (lines_of h.image c.step-told.result) c.requires.within c.requires.is_of leads in
    subst (λ z. AreCheckpoints i slots z limit wanted c.cross.new.path) u
    (subst (λ x. AreCheckpoints x slots until limit wanted c.cross.new.path) own.image
    (c.in_ok-met.ensures.checkpoints h until limit wanted now steps c.in_ok-moment.ensures
    (subst (λ x. AreCheckpoints x slots until limit wanted c.loop-now.path) (sym own.image) c.loop-now.invariant.1)))

pub returns-in-Some-met-clause-rows : goal.returns-in-Some-met-clause-rows
returns-in-Some-met-clause-rows g c =
    let i = c.args.execution.now.image in
    let slots = c.args.choices.now in
    let part = c.args.part in
    let places = c.args.choice.now in
    let until = to_z w64 (of_z w64 c.args.until) in
    let u : until ≡ c.args.until = search rules in
    let limit = c.args.limit in
    let wanted = c.args.wanted in
    let now = to_z w64 c.loop-now.now-bits in
    let h = c.loop-now.execution in
    let left = c.loop-now.left in
    let own = subst (λ s. Standing i s until limit wanted h now left) c.requires.schedule c.loop-now.invariant.0 in
    let next = c.step-told.new.self in
    let none : (kernel_of h.tasking).outcome ≡ None = sym (ap some_outcome (sym c.in-None.is) ∙ c.ending_of.ensures) in
    let leads = c.step-told.ensures.leads none in
    let steps = steps_on i slots part places until limit wanted h now left own next (lines_of h.image c.step-told.result) c.requires.within c.requires.is_of leads in
    subst (λ x. AreKeptRows x slots part c.cross.new.table) own.image
    (c.in_ok-met.ensures.rows h until limit wanted now steps c.in_ok-moment.ensures
    (subst (λ x. AreKeptRows x slots part c.loop-now.table) (sym own.image) c.loop-now.invariant.2))

pub loop-now-smaller : goal.loop-now-smaller
loop-now-smaller g c =
    let none : (kernel_of c.loop-now.execution.tasking).outcome ≡ None = sym (ap some_outcome (sym c.in-None.is) ∙ c.ending_of.ensures) in
    let same : to_z w64 (of_z w64 c.time_of-later.result) ≡ c.time_of-later.result = search rules in
    let on = not_back _ _ _ _ _ _ _ _ c.loop-now.invariant.0 c.left_unmoved.ensures c.requires.lawful c.outcome_stays.ensures c.step-told.new.self c.step-told.result
    (c.step-told.ensures.leads none) (to_z w64 (of_z w64 c.time_of-later.result)) (same ∙ c.time_of-later.ensures) in
    let some : 0 < c.loop-now.left = search (rules, c.if-left-eq0.false) in
    ⊎_elim
    (λ (p, q). less_same (to_z w64 (of_z w64 c.args.until)) (to_z w64 c.loop-now.now-bits) _ c.args.limit c.loop-now.left c.left_behind-left.result p q some)
    (λ (p, q). less_later (to_z w64 (of_z w64 c.args.until)) (to_z w64 c.loop-now.now-bits) _ c.args.limit c.loop-now.left c.left_behind-left.result
    (le_of _ _ c.loop-now-test.true) p q some)
    (behind_cases _ _ c.loop-now.left c.args.limit c.left_behind-left.result on c.left_behind-left.ensures.same c.left_behind-left.ensures.moved)

pub loop-now-preserved : goal.loop-now-preserved
loop-now-preserved g c =
    let i = c.args.execution.now.image in
    let slots = c.args.choices.now in
    let part = c.args.part in
    let places = c.args.choice.now in
    let until = to_z w64 (of_z w64 c.args.until) in
    let limit = c.args.limit in
    let wanted = c.args.wanted in
    let now = to_z w64 c.loop-now.now-bits in
    let h = c.loop-now.execution in
    let next = c.step-told.new.self in
    let none : (kernel_of h.tasking).outcome ≡ None = sym (ap some_outcome (sym c.in-None.is) ∙ c.ending_of.ensures) in
    let same : to_z w64 (of_z w64 c.time_of-later.result) ≡ c.time_of-later.result = search rules in
    let leads = c.step-told.ensures.leads none in
    let is = same ∙ c.time_of-later.ensures in
    let on = not_back _ _ _ _ _ _ _ _ c.loop-now.invariant.0 c.left_unmoved.ensures c.requires.lawful c.outcome_stays.ensures next c.step-told.result leads
    (to_z w64 (of_z w64 c.time_of-later.result)) is in
    let some : 0 < c.loop-now.left = search (rules, c.if-left-eq0.false) in
    let unwanted : (l : Line) → c.step-told.result ≡ Some l → FoundLine false next.image wanted until (line_of next.image l) =
    subst (λ x. (l : Line) → c.step-told.result ≡ Some l → FoundLine false x wanted until (line_of x l)) c.image.ensures c.in-None-wanted_line.ensures in
    let stands = c.loop-now.invariant.0 in
    let own = subst (λ s. Standing i s until limit wanted h now c.loop-now.left) c.requires.schedule stands in
    let steps = steps_on i slots part places until limit wanted h now c.loop-now.left own next (lines_of h.image c.step-told.result) c.requires.within c.requires.is_of leads in (
      stands_next _ _ _ _ _ _ _ _ stands next c.step-told.result leads unwanted (to_z w64 (of_z w64 c.time_of-later.result)) c.left_behind-left.result is some
          (⊎_elim (λ (p, q). inl (p, q)) (λ (p, q). inr q)
          (behind_cases now (to_z w64 (of_z w64 c.time_of-later.result)) c.loop-now.left limit c.left_behind-left.result on c.left_behind-left.ensures.same
          c.left_behind-left.ensures.moved)),
      subst (λ x. AreCheckpoints x slots until limit wanted c.cross.new.path) stands.image
          (c.in_ok-met.ensures.checkpoints h until limit wanted now steps c.in_ok-moment.ensures
          (subst (λ x. AreCheckpoints x slots until limit wanted c.loop-now.path) (sym stands.image) c.loop-now.invariant.1)),
      subst (λ x. AreKeptRows x slots part c.cross.new.table) stands.image
          (c.in_ok-met.ensures.rows h until limit wanted now steps c.in_ok-moment.ensures
          (subst (λ x. AreKeptRows x slots part c.loop-now.table) (sym stands.image) c.loop-now.invariant.2)),
    )

pub returns-clause-answer : goal.returns-clause-answer
returns-clause-answer g c =
    let i = c.args.execution.now.image in
    let slots = c.args.choices.now in
    let part = c.args.part in
    let places = c.args.choice.now in
    let until = to_z w64 (of_z w64 c.args.until) in
    let u : until ≡ c.args.until = search rules in
    let limit = c.args.limit in
    let wanted = c.args.wanted in
    let now = to_z w64 c.loop-now.now-bits in
    let h = c.loop-now.execution in
    let left = c.loop-now.left in
    let own = subst (λ s. Standing i s until limit wanted h now left) c.requires.schedule c.loop-now.invariant.0 in
    let lawful = subst (λ s. is_schedule s ≡ true) c.requires.schedule c.requires.lawful in
    subst (λ z. AnswersRun i (schedule_of slots places) z limit wanted answers.Nothing) u
    (answer_past i (schedule_of slots places) until limit wanted h now left own c.left_unmoved.ensures c.outcome_stays.ensures lawful (past_of _ _ c.loop-now-test.false))

pub returns-clause-image : goal.returns-clause-image
returns-clause-image g c = c.loop-now.invariant.0.image

pub returns-clause-checkpoints : goal.returns-clause-checkpoints
returns-clause-checkpoints g c =
    let u : to_z w64 (of_z w64 c.args.until) ≡ c.args.until = search rules in
    subst (λ z. AreCheckpoints c.args.execution.now.image c.args.choices.now z c.args.limit c.args.wanted c.loop-now.path) u c.loop-now.invariant.1

pub returns-clause-rows : goal.returns-clause-rows
returns-clause-rows g c = c.loop-now.invariant.2
