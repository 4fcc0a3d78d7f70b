use Rattle.size_rules.proofs.Adding.{words_add_up}
use Rattle.size_rules.proofs.laws.words_add_up.Goals as goal

pub returns : goal.returns
returns c = words_add_up
