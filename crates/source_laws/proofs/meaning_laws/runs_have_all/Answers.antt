use Rattle.source_laws.proofs.MeantWorlds.{runs_have_all}
use Rattle.source_laws.proofs.NamesTogether.{names_together}
use Rattle.source_laws.proofs.meaning_laws.runs_have_all.Goals as goal

pub returns : goal.returns
returns c =
    runs_have_all
    (names_together c.fronts_fit.ensures c.names_are_known.ensures c.premises_hold.ensures c.scopes_are_sound.ensures c.shapes_stay.ensures
    c.starts_are_sound.ensures c.values_have_words.ensures)
    c.runs_are_sound.ensures
