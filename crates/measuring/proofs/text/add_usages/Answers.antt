use Rattle.std.proofs.Common.{◌≡◌, ◌∙◌, ◌+◌, ◌++◌, ap, arith, length}
use Rattle.base.specs.declared.limits.TheConstants.{CHANNELS}
use Rattle.measuring.specs.Text.{below, shown_usage}
use Rattle.measuring.proofs.Rows.{one_added}
use Rattle.measuring.proofs.text.add_usages.Goals as goal

pub loop-actor-preserved : goal.loop-actor-preserved
loop-actor-preserved c u grid =
    one_added _ _ _ (λ t. below (length c.args.image.now.objects) (shown_usage c.args.form c.args.image.now c.args.names.now u t)) c.loop-actor.actor
    (below c.args.objects (shown_usage c.args.form c.args.image.now c.args.names.now u c.loop-actor.actor)) (c.loop-actor.invariant u grid) (c.in_ok-add_usages_of.ensures u grid)
    (ap (λ n. below n (shown_usage c.args.form c.args.image.now c.args.names.now u c.loop-actor.actor)) c.requires.objects)

pub returns : goal.returns
returns c u grid =
    let at : c.loop-actor.actor ≡ length c.args.image.now.tasks + (CHANNELS + 1) = omega (arith, c.loop-actor-test.false, c.loop-actor.auto.actor-end, c.requires.tasks, c.requires.few) in
    c.loop-actor.invariant u grid
    ∙ ap (λ n. c.args.text.now.items ++ below n (λ t. below (length c.args.image.now.objects) (shown_usage c.args.form c.args.image.now c.args.names.now u t))) at
