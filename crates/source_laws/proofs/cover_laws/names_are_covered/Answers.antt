use Rattle.source_laws.proofs.CoveredTexts.{names_are_covered}
use Rattle.source_laws.proofs.NamesTogether.{names_together}
use Rattle.source_laws.proofs.cover_laws.names_are_covered.Goals as goal

pub returns : goal.returns
returns c =
    names_are_covered
    (names_together c.fronts_fit.ensures c.names_are_known.ensures c.premises_hold.ensures c.scopes_are_sound.ensures c.shapes_stay.ensures
    c.starts_are_sound.ensures c.values_have_words.ensures)
    c.bodies_keep_limits.ensures c.bodies_call_few.ensures c.tables_are_small.ensures
