use Rattle.compiler.proofs.Located.{places_innermost}
use Rattle.compiler.proofs.laws.places_are_innermost.Goals as goal

pub returns : goal.returns
returns c = places_innermost
