use Rattle.tasking.proofs.Lines.{kept_with_lines}
use Rattle.tasking.proofs.laws.kept_with_lines.Goals as goal

pub returns : goal.returns
returns c = kept_with_lines
