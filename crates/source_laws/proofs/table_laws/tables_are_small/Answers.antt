use Rattle.source_laws.proofs.Tables.{tables_small}
use Rattle.source_laws.proofs.NamesTogether.{names_together}
use Rattle.source_laws.proofs.table_laws.tables_are_small.Goals as goal

pub returns : goal.returns
returns c =
    tables_small
    (names_together c.fronts_fit.ensures c.names_are_known.ensures c.premises_hold.ensures c.scopes_are_sound.ensures c.shapes_stay.ensures
    c.starts_are_sound.ensures c.values_have_words.ensures)
    c.words_have_room.ensures
