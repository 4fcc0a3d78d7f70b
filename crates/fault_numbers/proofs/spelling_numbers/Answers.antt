use Rattle.fault_numbers.proofs.Texts.{spelling_numbers}
use Rattle.fault_numbers.proofs.spelling_numbers.Goals as goal

pub returns : goal.returns
returns c = spelling_numbers
