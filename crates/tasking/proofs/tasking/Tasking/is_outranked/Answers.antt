use Rattle.std.proofs.Common.{nat_lt, ap, ◌∙◌}
use Rattle.tasking.proofs.Dispatching.{above_is}
use Rattle.tasking.proofs.Moves.{seen}
use Rattle.tasking.proofs.tasking.Tasking.is_outranked.Goals as goal

pub returns-in-Some : goal.returns-in-Some
returns-in-Some g c =
    ap (λ n. nat_lt n c.in-Some.highest) c.active.ensures.same
    ∙ above_is (seen c.self.view_is) (g.R.Ready.queues c.self.inside.ready) c.args.self.now c.self.view_is c.args.task _ c.in-Some.ensures.same

pub returns-in-None : goal.returns-in-None
returns-in-None g c = above_is (seen c.self.view_is) (g.R.Ready.queues c.self.inside.ready) c.args.self.now c.self.view_is c.args.task _ c.in-None.ensures.same
