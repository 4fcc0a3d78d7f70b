use Rattle.image_laws.proofs.Shapes.{start_sound}
use Rattle.image_laws.proofs.begins_sound.Goals as goal

pub returns : goal.returns
returns c = start_sound
