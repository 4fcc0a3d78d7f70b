use Rattle.tasking.proofs.Delivering.{gone_is, gone_kept}
use Rattle.tasking.proofs.Moves.{seen}
use Rattle.tasking.proofs.tasking.Tasking.handler_leaves.Goals as goal

pub invariant_of-self : goal.invariant_of-self
invariant_of-self g c = gone_kept (seen c.self.view_is) c.args.self.now c.self.view_is c.self.invariant c.args.task c.requires.handler c.requires.none

pub returns : goal.returns
returns g c = gone_is (seen c.self.view_is) c.args.self.now c.self.view_is c.self.invariant c.args.task c.requires.handler c.requires.none
