use Rattle.source_laws.proofs.VisibleWords.{fronts_keep_limits}
use Rattle.source_laws.proofs.laws.fronts_keep_limits.Goals as goal

pub returns : goal.returns
returns c =
    fronts_keep_limits c.premises_hold.ensures c.names_are_known.ensures c.shapes_stay.ensures c.words_have_room.ensures
