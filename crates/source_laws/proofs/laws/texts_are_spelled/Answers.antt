use Rattle.source_laws.proofs.SpelledPrograms.{texts_spelled}
use Rattle.source_laws.proofs.laws.texts_are_spelled.Goals as goal

pub returns : goal.returns
returns c = texts_spelled
