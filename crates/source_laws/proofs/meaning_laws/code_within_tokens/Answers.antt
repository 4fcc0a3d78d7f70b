use Rattle.source_laws.proofs.PartsCounted.{code_within_tokens}
use Rattle.source_laws.proofs.meaning_laws.code_within_tokens.Goals as goal

pub returns : goal.returns
returns c = code_within_tokens
