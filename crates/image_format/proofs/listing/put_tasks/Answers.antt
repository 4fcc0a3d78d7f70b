use Rattle.base.specs.Names.{is_name}
use Rattle.image_format.proofs.Listed.{passes_here}
use Rattle.image_format.proofs.listing.put_tasks.Goals as goal

pub put_task-requires : goal.put_task-requires
put_task-requires c =
    rw c.t-item.is (passes_here (λ t. is_name t.name) c.args.tasks.now c.loop-t.t-index c.t-item.result c.requires c.loop-t-test.true)
