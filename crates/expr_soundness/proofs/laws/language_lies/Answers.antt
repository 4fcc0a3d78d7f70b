use Rattle.expr_soundness.proofs.LanguageValues.{language_lies}
use Rattle.expr_soundness.proofs.laws.language_lies.Goals as goal

pub returns : goal.returns
returns c = language_lies
