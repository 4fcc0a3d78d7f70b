use Rattle.source_laws.proofs.CodeCounted.{small_code_fits}
use Rattle.source_laws.proofs.laws.small_code_fits.Goals as goal

pub returns : goal.returns
returns c = small_code_fits c.size_within_tokens.ensures c.tables_are_small.ensures
