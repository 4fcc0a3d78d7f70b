use Rattle.source_laws.proofs.SubprogramsCounted.{subprograms_within_tokens}
use Rattle.source_laws.proofs.count_laws.subprograms_within_tokens.Goals as goal

pub returns : goal.returns
returns c = subprograms_within_tokens
