use Rattle.fault_numbers.proofs.Programs.{legality_numbers}
use Rattle.fault_numbers.proofs.legality_numbers.Goals as goal

pub returns : goal.returns
returns c = legality_numbers
