use Rattle.meaning.proofs.Runs.{source_lines_grow}
use Rattle.meaning.proofs.laws.source_lines_grow.Goals as goal

pub returns : goal.returns
returns c = source_lines_grow c.lines_grow.ensures
