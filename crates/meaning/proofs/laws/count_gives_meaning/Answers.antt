use Rattle.meaning.proofs.Runs.{count_gives_meaning}
use Rattle.meaning.proofs.laws.count_gives_meaning.Goals as goal

pub returns : goal.returns
returns c = count_gives_meaning c.lines_grow.ensures
