use Rattle.source_laws.proofs.NeedsBodies.{procedures_have_room}
use Rattle.source_laws.proofs.depth_laws.procedures_have_room.Goals as goal

pub returns : goal.returns
returns c = procedures_have_room
