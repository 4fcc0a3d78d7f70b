use Rattle.expr_rules.proofs.Noted.{found_is_all}
use Rattle.expr_rules.proofs.laws.found_is_all.Goals as goal

pub returns : goal.returns
returns c = found_is_all
