use Rattle.tasking.proofs.Lines.{lines_apart}
use Rattle.tasking.proofs.laws.lines_apart.Goals as goal

pub returns : goal.returns
returns c = lines_apart
