use Rattle.std.proofs.Common.{◌≡◌, ◌∙◌, arith, inl, inr, subst, sym}
use Rattle.waveforms.proofs.Labels.{Labelled, labelled_nothing, labelled_on, labelled_over}
use Rattle.waveforms.proofs.lines.labels_of_run.Goals as goal

pub loop-taken-init : goal.loop-taken-init
loop-taken-init g c =
    let i = c.args.image.now in
    let schedule = c.args.schedule.now in
    let m = c.in_ok-machine.ensures in
    let start = labelled_nothing c.left_unmoved.ensures i schedule c.in_ok-machine.machine m.image m.schedule m.stands in
    (subst (Labelled i schedule 0 c.in_ok-machine.machine) (sym c.new-labels.ensures.items) start, omega arith, omega arith)

pub loop-taken-preserved : goal.loop-taken-preserved
loop-taken-preserved g c =
    let less = c.loop-taken-test.true in
    let step = c.step_line-line.ensures in (
      labelled_on _ _ _ _ _ c.loop-taken.invariant.0 c.step_line-line.new.self c.step_line-line.result step.world step.image step.schedule _ c.in_ok-add_label_if_any.ensures,
      omega (arith, less),
      omega (arith, c.loop-taken.invariant.2, step.one),
    )

pub returns-in-Some-clause-labels : goal.returns-in-Some-clause-labels
returns-in-Some-clause-labels g c =
    let last = c.in-Some.ensures.last in
    labelled_over _ _ _ _ _ c.loop-taken.invariant.0 c.outcome_stays.ensures c.args.limit c.loop-taken.invariant.1 (inr (last.0, sym c.in-Some.ensures.outcome ∙ last.1))

pub returns-clause-labels : goal.returns-clause-labels
returns-clause-labels g c =
    let low = c.loop-taken.invariant.1 in
    let high = c.loop-taken-test.false in
    let at : c.loop-taken.taken ≡ c.args.limit = omega (arith, low, high) in
    labelled_over _ _ _ _ _ c.loop-taken.invariant.0 c.outcome_stays.ensures c.args.limit low (inl at)
