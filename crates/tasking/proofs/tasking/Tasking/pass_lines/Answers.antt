use Rattle.tasking.proofs.Delivering.{lines_passed, passed_kept}
use Rattle.tasking.proofs.Moves.{seen}
use Rattle.tasking.proofs.tasking.Tasking.pass_lines.Goals as goal

pub invariant_of-self : goal.invariant_of-self
invariant_of-self g c = passed_kept (seen c.self.view_is) c.self.invariant c.from_attached-self-inside.result.now c.from_attached-self-inside.ensures.same

pub returns-clause-same : goal.returns-clause-same
returns-clause-same g c =
    lines_passed (seen c.self.view_is) c.args.self.now c.self.view_is c.from_attached-self-inside.result.now c.from_attached-self-inside.ensures.same
