use Rattle.declaration_rules.proofs.Growing.{names_are_added}
use Rattle.declaration_rules.proofs.laws.names_are_added.Goals as goal

pub returns : goal.returns
returns c = names_are_added
