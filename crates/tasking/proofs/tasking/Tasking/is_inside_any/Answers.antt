use Rattle.std.proofs.Common.{◌∙◌}
use Rattle.tasking.proofs.Moves.{lent_kept, lent_same, seen}
use Rattle.tasking.proofs.Objects.{any_inside}
use Rattle.tasking.proofs.tasking.Tasking.is_inside_any.Goals as goal

pub returns : goal.returns
returns g c =
    let now = lent_same (seen c.self.view_is) c.deref.ensures c.self.view_is in
    let kept = lent_kept (seen c.self.view_is) c.deref.ensures c.self.invariant in
    c.in_action.ensures
    ∙ any_inside (seen now) c.args.self.now now kept c.args.task c.requires c.told.result c.told.ensures.told
