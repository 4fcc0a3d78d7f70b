use Rattle.package_code.proofs.Placed.{variables_are_placed}
use Rattle.compiler.proofs.laws.variables_are_placed.Goals as goal

pub returns : goal.returns
returns c = variables_are_placed c.premises_hold.ensures
