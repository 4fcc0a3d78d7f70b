use Rattle.std.proofs.Common.{◌∙◌, ap}
use Rattle.image.specs.Code.{partition_of}
use Rattle.measuring.specs.Measures.{blocked_by}
use Rattle.measuring.proofs.Greatest.{one_more}
use Rattle.measuring.proofs.blocking.blocking.Goals as goal

pub loop-actor-preserved : goal.loop-actor-preserved
loop-actor-preserved c usage is =
    one_more (λ u. blocked_by (partition_of c.args.image.now) (partition_of c.args.image.now).objects (λ o. (usage u o).longest_action) c.args.waiting u) c.loop-actor.actor _ _ _
    (c.loop-actor.invariant usage is) c.max-most.ensures
    (c.blocked_by.ensures usage is ∙ ap (λ n. blocked_by (partition_of c.args.image.now) n (λ o. (usage c.loop-actor.actor o).longest_action) c.args.waiting c.loop-actor.actor) c.requires.objects)
