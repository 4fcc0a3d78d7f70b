use Rattle.source_laws.proofs.NeedsBodies.{functions_have_room}
use Rattle.source_laws.proofs.depth_laws.functions_have_room.Goals as goal

pub returns : goal.returns
returns c = functions_have_room
