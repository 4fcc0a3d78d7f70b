use Rattle.tasking.proofs.Moves.{outranked_is, outranked_kept, preempted_room, seen}
use Rattle.tasking.proofs.tasking.Tasking.preempted.Goals as goal

pub add_head-requires-clause-room : goal.add_head-requires-clause-room
add_head-requires-clause-room g c =
    let q = g.R.Ready.queues c.self.inside.ready in
    preempted_room (seen c.self.view_is) q q c.args.self.now c.self.view_is c.self.invariant c.args.task c.active-priority.result c.requires.task
    c.requires.running c.active-priority.ensures.low

pub invariant_of-self : goal.invariant_of-self
invariant_of-self g c =
    outranked_kept (seen c.self.view_is) (g.R.Ready.queues c.self.inside.ready)
    (g.R.Ready.queues c.add_head.new.self) c.args.self.now c.self.view_is c.self.invariant
    c.args.task c.from.result c.active-priority.result c.from.ensures c.requires.task c.active-priority.ensures.same c.active-priority.ensures.low
    c.requires.running c.add_head.ensures

pub returns : goal.returns
returns g c =
    outranked_is (seen c.self.view_is) (g.R.Ready.queues c.self.inside.ready)
    (g.R.Ready.queues c.add_head.new.self) c.args.self.now c.self.view_is c.self.invariant
    c.args.task c.from.result c.active-priority.result c.from.ensures c.requires.task c.active-priority.ensures.same c.active-priority.ensures.low
    c.add_head.ensures
