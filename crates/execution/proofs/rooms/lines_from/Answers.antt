use Rattle.execution.proofs.Restoring.{rest_whole}
use Rattle.execution.proofs.rooms.lines_from.Goals as goal

pub returns : goal.returns
returns c = rest_whole c.args.passed c.args.lines.now
