use Rattle.base.proofs.Division.{modulus_law}
use Rattle.base.proofs.laws.modulus_law.Goals as goal

pub returns : goal.returns
returns c = modulus_law
