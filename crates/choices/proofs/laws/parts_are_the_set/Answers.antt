use Rattle.choices.proofs.Parting.{parts_of_all}
use Rattle.choices.proofs.laws.parts_are_the_set.Goals as goal

pub returns : goal.returns
returns c = parts_of_all
