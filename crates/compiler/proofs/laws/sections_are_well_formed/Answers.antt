use Rattle.compiler.proofs.WellFormed.{sections_well_formed}
use Rattle.source_laws.proofs.NamesTogether.{names_together}
use Rattle.compiler.proofs.laws.sections_are_well_formed.Goals as goal

pub returns : goal.returns
returns c =
    sections_well_formed
    (names_together c.fronts_fit.ensures c.names_are_known.ensures c.premises_hold.ensures c.scopes_are_sound.ensures c.shapes_stay.ensures
    c.starts_are_sound.ensures c.values_have_words.ensures)
    c.kept_code_passes.ensures
