use Rattle.legality.proofs.Room.{words_have_room}
use Rattle.legality.proofs.laws.words_have_room.Goals as goal

pub returns : goal.returns
returns c = words_have_room c.words_add_up.ensures c.shapes_stay.ensures c.names_are_added.ensures
