use Rattle.size_rules.proofs.Capping.{suffices}
use Rattle.size_rules.proofs.laws.capped_words_suffice.Goals as goal

pub returns : goal.returns
returns c = suffices
