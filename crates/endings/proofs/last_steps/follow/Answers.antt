use Rattle.std.proofs.Common.{◌∙◌, sym}
use Rattle.endings.proofs.Noted.{follows_over}
use Rattle.endings.proofs.last_steps.follow.Goals as goal

pub returns-in-Some-clause-steps : goal.returns-in-Some-clause-steps
returns-in-Some-clause-steps g c =
    let last = c.in-Some.ensures.last in
    follows_over c.outcome_stays.ensures c.args.machine.now.image c.args.machine.now.schedule c.args.machine.now c.args.lasts.now c.loop-step.step c.args.count c.loop-step.machine c.loop-step.lasts last.0 c.loop-step.invariant.follows
    (sym c.in-Some.ensures.outcome ∙ last.1) c.loop-step.invariant.up
