use Rattle.source_laws.proofs.MainCalls.{main_added}
use Rattle.source_laws.proofs.NamesTogether.{names_together}
use Rattle.source_laws.proofs.table_laws.main_may_be_added.Goals as goal

pub returns : goal.returns
returns c =
    main_added
    (names_together c.fronts_fit.ensures c.names_are_known.ensures c.premises_hold.ensures c.scopes_are_sound.ensures c.shapes_stay.ensures
    c.starts_are_sound.ensures c.values_have_words.ensures)
