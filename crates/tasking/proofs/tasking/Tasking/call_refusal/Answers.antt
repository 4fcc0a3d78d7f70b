use Rattle.std.proofs.Common.{ap, ◌∙◌}
use Rattle.std.specs.Result.{result_err}
use Rattle.tasking.proofs.Moves.{lent_kept, lent_same, seen}
use Rattle.tasking.proofs.Objects.{refusal_is}
use Rattle.tasking.proofs.tasking.Tasking.call_refusal.Goals as goal

pub returns : goal.returns
returns g c =
    let now = lent_same (seen c.self.view_is) c.deref.ensures c.self.view_is in
    let kept = lent_kept (seen c.self.view_is) c.deref.ensures c.self.invariant in
    c.err.ensures.value
    ∙ (ap result_err c.may_open.ensures
    ∙ refusal_is (seen now) c.args.self.now now kept c.args.task c.requires.task c.told.result c.told.ensures.told
    c.args.object)
