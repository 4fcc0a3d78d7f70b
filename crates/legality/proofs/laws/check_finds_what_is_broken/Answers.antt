use Rattle.legality.proofs.SameFaults.{finds_what_is_broken}
use Rattle.legality.proofs.laws.check_finds_what_is_broken.Goals as goal

pub returns : goal.returns
returns c = finds_what_is_broken
