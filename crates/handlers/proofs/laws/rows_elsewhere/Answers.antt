use Rattle.handlers.proofs.Joined.{elsewhere}
use Rattle.handlers.proofs.laws.rows_elsewhere.Goals as goal

pub returns : goal.returns
returns c = elsewhere
