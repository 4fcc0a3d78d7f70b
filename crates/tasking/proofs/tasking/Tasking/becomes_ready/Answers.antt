use Rattle.tasking.proofs.Moves.{becomes_is, becomes_kept, becomes_room, seen}
use Rattle.tasking.proofs.tasking.Tasking.becomes_ready.Goals as goal

pub add_tail-requires-clause-room : goal.add_tail-requires-clause-room
add_tail-requires-clause-room g c =
    let q = g.R.Ready.queues c.self.inside.ready in
    becomes_room (seen c.self.view_is) q q c.args.self.now c.self.view_is c.self.invariant c.args.task c.active-priority.result c.requires.task
    c.requires.nowhere c.active-priority.ensures.low

pub invariant_of-self : goal.invariant_of-self
invariant_of-self g c =
    becomes_kept (seen c.self.view_is) (g.R.Ready.queues c.self.inside.ready)
    (g.R.Ready.queues c.add_tail.new.self) c.args.self.now c.self.view_is c.self.invariant
    c.args.task c.from.result c.active-priority.result c.from.ensures c.requires.task c.active-priority.ensures.same c.active-priority.ensures.low
    c.requires.nowhere c.add_tail.ensures

pub returns : goal.returns
returns g c =
    becomes_is (seen c.self.view_is) (g.R.Ready.queues c.self.inside.ready)
    (g.R.Ready.queues c.add_tail.new.self) c.args.self.now c.self.view_is c.self.invariant
    c.args.task c.from.result c.active-priority.result c.from.ensures c.requires.task c.active-priority.ensures.same c.active-priority.ensures.low
    c.add_tail.ensures
