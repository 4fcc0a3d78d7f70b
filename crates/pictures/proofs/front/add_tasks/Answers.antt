use Rattle.std.proofs.Common.{◌∙◌}
use Rattle.image.specs.Texts.{names_of}
use Rattle.pictures.specs.Front.{named_row}
use Rattle.pictures.proofs.Pieces.{one_added}
use Rattle.pictures.proofs.front.add_tasks.Goals as goal

pub loop-task-preserved : goal.loop-task-preserved
loop-task-preserved c =
    let name = c.as_slice.ensures.value ∙ c.actor_name-name.ensures.same in
    one_added _ _ _ (λ t. named_row c.args.frame c.args.axis t ((names_of c.args.image.now).task t)) c.loop-task.task _ c.loop-task.invariant c.in_ok-add_row.ensures
    (λ j. named_row c.args.frame c.args.axis (c.from.ensures j) (name j))
