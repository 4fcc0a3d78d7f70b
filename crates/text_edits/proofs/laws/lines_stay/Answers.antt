use Rattle.text_edits.proofs.Placed.{lines_stay}
use Rattle.text_edits.proofs.laws.lines_stay.Goals as goal

pub returns : goal.returns
returns c = lines_stay
