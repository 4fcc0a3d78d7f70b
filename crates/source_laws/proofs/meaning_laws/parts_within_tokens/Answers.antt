use Rattle.source_laws.proofs.PartsCounted.{parts_within_tokens}
use Rattle.source_laws.proofs.meaning_laws.parts_within_tokens.Goals as goal

pub returns : goal.returns
returns c = parts_within_tokens
