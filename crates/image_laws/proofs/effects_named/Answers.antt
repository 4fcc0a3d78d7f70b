use Rattle.image_laws.proofs.Named.{effects_named}
use Rattle.image_laws.proofs.effects_named.Goals as goal

pub returns : goal.returns
returns c = effects_named
