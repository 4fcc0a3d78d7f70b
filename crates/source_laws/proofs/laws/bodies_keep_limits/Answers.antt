use Rattle.source_laws.proofs.InsideLimits.{bodies_keep_limits}
use Rattle.source_laws.proofs.laws.bodies_keep_limits.Goals as goal

pub returns : goal.returns
returns c =
    bodies_keep_limits c.scopes_are_sound.ensures c.names_are_known.ensures c.premises_hold.ensures c.shapes_stay.ensures c.words_have_room.ensures
    c.fronts_keep_limits.ensures
