use Rattle.image_laws.proofs.Runs.{lines_grow_on}
use Rattle.image_laws.proofs.lines_grow_on.Goals as goal

pub returns : goal.returns
returns c = lines_grow_on c.lines_grow.ensures
