use Rattle.source_laws.proofs.MeantTexts.{meaning_is_told}
use Rattle.source_laws.proofs.NamesTogether.{names_together}
use Rattle.source_laws.proofs.meaning_laws.meaning_is_told.Goals as goal

pub returns : goal.returns
returns c =
    meaning_is_told c.static_is_value.ensures
    (names_together c.fronts_fit.ensures c.names_are_known.ensures c.premises_hold.ensures c.scopes_are_sound.ensures c.shapes_stay.ensures
    c.starts_are_sound.ensures c.values_have_words.ensures)
    c.declarations_are_sound.ensures
