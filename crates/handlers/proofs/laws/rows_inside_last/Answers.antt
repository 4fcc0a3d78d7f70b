use Rattle.handlers.proofs.Joined.{inside_last}
use Rattle.handlers.proofs.laws.rows_inside_last.Goals as goal

pub returns : goal.returns
returns c = inside_last
