use Rattle.ravenscar.proofs.Acceptance.{list_shows_acceptance}
use Rattle.ravenscar.proofs.laws.list_shows_acceptance.Goals as goal

pub returns : goal.returns
returns c = list_shows_acceptance
