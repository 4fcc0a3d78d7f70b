use Rattle.std.proofs.Common.{◌≡◌, ◌∙◌, ap, arith, if◌then◌else◌}
use Rattle.image.specs.Code.{partition_of}
use Rattle.measuring.specs.Measures.{blocked_by, can_block}
use Rattle.measuring.proofs.Greatest.{one_more}
use Rattle.measuring.proofs.blocking.blocked_by.Goals as goal

pub loop-object-preserved : goal.loop-object-preserved
loop-object-preserved c usage is =
    one_more (λ o. if can_block (partition_of c.args.image.now) c.args.waiting c.args.actor o then (usage c.args.actor o).longest_action else 0) c.loop-object.object _ _ _
    (c.loop-object.invariant usage is) c.max-most.ensures (c.steps_of_action.ensures usage is)

pub returns : goal.returns
returns c usage is =
    let at : c.loop-object.object ≡ c.args.objects = omega (arith, c.loop-object-test.false, c.loop-object.auto.object-end) in
    c.loop-object.invariant usage is
    ∙ ap (λ n. blocked_by (partition_of c.args.image.now) n (λ o. (usage c.args.actor o).longest_action) c.args.waiting c.args.actor) at
