use Rattle.image_laws.proofs.Shapes.{steps_sound}
use Rattle.image_laws.proofs.steps_sound.Goals as goal

pub returns : goal.returns
returns c = steps_sound
