use Rattle.handlers.proofs.Joined.{inside}
use Rattle.handlers.proofs.laws.rows_inside.Goals as goal

pub returns : goal.returns
returns c = inside
