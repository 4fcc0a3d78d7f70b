use Rattle.source_laws.proofs.NamesTogether.{names_together}
use Rattle.source_laws.proofs.SmallFronts.{fronts_are_small}
use Rattle.source_laws.proofs.laws.fronts_are_small.Goals as goal

pub returns : goal.returns
returns c =
    fronts_are_small
    (names_together c.fronts_fit.ensures c.names_are_known.ensures c.premises_hold.ensures c.scopes_are_sound.ensures c.shapes_stay.ensures
    c.starts_are_sound.ensures c.values_have_words.ensures)
    c.words_have_room.ensures c.bodies_call_few.ensures c.bodies_keep_limits.ensures
