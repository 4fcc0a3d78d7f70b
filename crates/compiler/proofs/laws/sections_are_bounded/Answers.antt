use Rattle.package_code.proofs.Counted.{sections_are_bounded}
use Rattle.compiler.proofs.laws.sections_are_bounded.Goals as goal

pub returns : goal.returns
returns c = sections_are_bounded
