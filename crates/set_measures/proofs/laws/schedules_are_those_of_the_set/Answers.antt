use Rattle.set_measures.proofs.Among.{all_schedules}
use Rattle.set_measures.proofs.laws.schedules_are_those_of_the_set.Goals as goal

pub returns : goal.returns
returns c = all_schedules
