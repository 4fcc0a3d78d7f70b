use Rattle.source_laws.proofs.NamesTogether.{names_together}
use Rattle.source_laws.proofs.SmallBodies.{small_has_room}
use Rattle.source_laws.proofs.laws.small_has_room.Goals as goal

pub returns : goal.returns
returns c =
    small_has_room
    (names_together c.fronts_fit.ensures c.names_are_known.ensures c.premises_hold.ensures c.scopes_are_sound.ensures c.shapes_stay.ensures
    c.starts_are_sound.ensures c.values_have_words.ensures)
    c.fronts_are_small.ensures c.names_are_covered.ensures c.procedures_have_room.ensures c.functions_have_room.ensures
