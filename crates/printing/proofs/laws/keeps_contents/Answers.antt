use Rattle.printing.proofs.Kept.{kept}
use Rattle.printing.proofs.laws.keeps_contents.Goals as goal

pub returns : goal.returns
returns c = kept
