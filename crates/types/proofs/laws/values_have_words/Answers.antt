use Rattle.types.proofs.Words.{values_have_words}
use Rattle.types.proofs.laws.values_have_words.Goals as goal

pub returns : goal.returns
returns c = values_have_words
