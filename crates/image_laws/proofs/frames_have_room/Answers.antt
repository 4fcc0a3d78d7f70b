use Rattle.image_laws.proofs.Shapes.{frames_have_room}
use Rattle.image_laws.proofs.frames_have_room.Goals as goal

pub returns : goal.returns
returns c = frames_have_room
