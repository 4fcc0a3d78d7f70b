use Rattle.tasking.proofs.Moves.{in_row, leaves_is, leaves_kept, left_nowhere, seen, task_here}
use Rattle.tasking.proofs.tasking.Tasking.leaves.Goals as goal

pub bounds-self-inside-from : goal.bounds-self-inside-from
bounds-self-inside-from g c =
    let h = seen c.self.view_is in
    in_row h c.args.self.now c.self.view_is c.self.invariant c.from.result c.args.task c.from.ensures
    (task_here h c.args.self.now c.self.view_is c.self.invariant c.args.task c.requires.task)

pub invariant_of-self : goal.invariant_of-self
invariant_of-self g c =
    leaves_kept (seen c.self.view_is) c.args.self.now c.self.view_is c.self.invariant c.from.result c.args.task c.from.ensures c.requires.task c.requires.running

pub returns-clause-moved : goal.returns-clause-moved
returns-clause-moved g c =
    leaves_is (seen c.self.view_is) c.args.self.now c.self.view_is c.self.invariant c.from.result c.args.task c.from.ensures c.requires.task c.requires.running

pub returns-clause-nowhere : goal.returns-clause-nowhere
returns-clause-nowhere g c =
    left_nowhere (seen c.self.view_is) c.args.self.now c.self.view_is c.self.invariant c.from.result c.args.task c.from.ensures c.requires.task c.requires.running

pub returns-clause-task : goal.returns-clause-task
returns-clause-task g c = task_here (seen c.self.view_is) c.args.self.now c.self.view_is c.self.invariant c.args.task c.requires.task
