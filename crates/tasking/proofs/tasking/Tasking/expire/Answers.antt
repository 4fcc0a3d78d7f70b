use Rattle.std.proofs.Common.{◌≡◌, rules, to_z, of_z, w64}
use Rattle.tasking.proofs.Moves.{seen}
use Rattle.tasking.proofs.Waking.{expired_awoken, expired_is, expired_kept, expired_tasks}
use Rattle.tasking.proofs.tasking.Tasking.expire.Goals as goal

pub invariant_of-self : goal.invariant_of-self
invariant_of-self g c =
    let same : to_z w64 (of_z w64 c.args.time) ≡ c.args.time = search rules in
    expired_kept (seen c.self.view_is) c.args.self.now c.self.view_is c.self.invariant c.args.time _ same
    (g.D.Delays.sleepers c.expire.new.self) c.expire.ensures.left

pub returns-clause-tasks : goal.returns-clause-tasks
returns-clause-tasks g c =
    let same : to_z w64 (of_z w64 c.args.time) ≡ c.args.time = search rules in
    expired_tasks (seen c.self.view_is) c.args.self.now c.self.view_is c.self.invariant c.args.time _ same c.expire.result.items c.expire.ensures.tasks

pub returns-clause-left : goal.returns-clause-left
returns-clause-left g c =
    let same : to_z w64 (of_z w64 c.args.time) ≡ c.args.time = search rules in
    expired_is (seen c.self.view_is) c.args.self.now c.self.view_is c.self.invariant c.args.time _ same
    (g.D.Delays.sleepers c.expire.new.self) c.expire.ensures.left

pub returns-clause-awoken : goal.returns-clause-awoken
returns-clause-awoken g c =
    let same : to_z w64 (of_z w64 c.args.time) ≡ c.args.time = search rules in
    expired_awoken (seen c.self.view_is) c.args.self.now c.self.view_is c.self.invariant c.args.time _ same
    (g.D.Delays.sleepers c.expire.new.self) c.expire.ensures.left c.expire.result.items c.expire.ensures.tasks

pub returns-clause-orderly : goal.returns-clause-orderly
returns-clause-orderly g c =
    let same : to_z w64 (of_z w64 c.args.time) ≡ c.args.time = search rules in
    let kept = expired_kept (seen c.self.view_is) c.args.self.now c.self.view_is c.self.invariant c.args.time _ same
    (g.D.Delays.sleepers c.expire.new.self) c.expire.ensures.left in
    kept.orderly
