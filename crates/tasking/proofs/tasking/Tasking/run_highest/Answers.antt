use Rattle.std.proofs.Common.{sym}
use Rattle.tasking.proofs.Moves.{head_is_task, idle_is, in_row, run_is, run_kept, seen}
use Rattle.tasking.proofs.tasking.Tasking.run_highest.Goals as goal

pub bounds-self-inside-from : goal.bounds-self-inside-from
bounds-self-inside-from g c =
    let h = seen c.self.view_is in
    in_row h c.args.self.now c.self.view_is c.self.invariant c.from.result c.in-Some.task c.from.ensures
    (head_is_task h (g.R.Ready.queues c.self.inside.ready)
    (g.R.Ready.queues c.take_highest.new.self) c.args.self.now c.self.view_is c.self.invariant c.requires c.take_highest.ensures.left
    c.in-Some.task (sym c.in-Some.ensures.task))

pub invariant_of-self : goal.invariant_of-self
invariant_of-self g c =
    run_kept (seen c.self.view_is) (g.R.Ready.queues c.self.inside.ready)
    (g.R.Ready.queues c.take_highest.new.self) c.args.self.now c.self.view_is c.self.invariant c.requires c.take_highest.ensures.left
    c.in-Some.task (sym c.in-Some.ensures.task) c.from.result c.from.ensures

pub returns-in-Some : goal.returns-in-Some
returns-in-Some g c =
    run_is (seen c.self.view_is) (g.R.Ready.queues c.self.inside.ready)
    (g.R.Ready.queues c.take_highest.new.self) c.args.self.now c.self.view_is c.self.invariant c.requires c.take_highest.ensures.left
    c.in-Some.task (sym c.in-Some.ensures.task) c.from.result c.from.ensures

pub returns-in_default : goal.returns-in_default
returns-in_default g c =
    idle_is (seen c.self.view_is) (g.R.Ready.queues c.self.inside.ready)
    (g.R.Ready.queues c.take_highest.new.self) c.args.self.now c.self.view_is c.self.invariant c.requires c.take_highest.ensures.left
    (sym c.in_default.ensures.task)
