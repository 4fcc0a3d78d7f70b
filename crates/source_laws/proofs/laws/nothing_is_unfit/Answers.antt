use Rattle.source_laws.proofs.FitBodies.{nothing_unfit}
use Rattle.source_laws.proofs.NamesTogether.{names_together}
use Rattle.source_laws.proofs.laws.nothing_is_unfit.Goals as goal

pub returns : goal.returns
returns c =
    nothing_unfit c.words_add_up.ensures
    (names_together c.fronts_fit.ensures c.names_are_known.ensures c.premises_hold.ensures c.scopes_are_sound.ensures c.shapes_stay.ensures
    c.starts_are_sound.ensures c.values_have_words.ensures)
    c.words_have_room.ensures c.fronts_keep_limits.ensures c.bodies_keep_limits.ensures
