use Rattle.package_code.proofs.Adding.{names_sound}
use Rattle.compiler.proofs.laws.names_are_sound.Goals as goal

pub returns : goal.returns
returns c = names_sound c.premises_hold.ensures
