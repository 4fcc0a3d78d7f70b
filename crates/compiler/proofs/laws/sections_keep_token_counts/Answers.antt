use Rattle.compiler.proofs.TokenCounts.{sections_keep_token_counts}
use Rattle.compiler.proofs.laws.sections_keep_token_counts.Goals as goal

pub returns : goal.returns
returns c =
    sections_keep_token_counts c.subprograms_within_tokens.ensures c.sections_are_bounded.ensures c.sections_mean_the_same.ensures
