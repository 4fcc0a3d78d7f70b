use Rattle.source_laws.proofs.MainKnown.{main_is_known}
use Rattle.source_laws.proofs.NamesTogether.{names_together}
use Rattle.source_laws.proofs.table_laws.main_is_known.Goals as goal

pub returns : goal.returns
returns c =
    main_is_known
    (names_together c.fronts_fit.ensures c.names_are_known.ensures c.premises_hold.ensures c.scopes_are_sound.ensures c.shapes_stay.ensures
    c.starts_are_sound.ensures c.values_have_words.ensures)
