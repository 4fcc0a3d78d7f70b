use Rattle.handlers.proofs.Joined.{around}
use Rattle.handlers.proofs.laws.rows_around.Goals as goal

pub returns : goal.returns
returns c = around
