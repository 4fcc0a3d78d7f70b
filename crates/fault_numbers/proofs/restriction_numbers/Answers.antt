use Rattle.fault_numbers.proofs.Restrictions.{restriction_numbers}
use Rattle.fault_numbers.proofs.restriction_numbers.Goals as goal

pub returns : goal.returns
returns c = restriction_numbers
