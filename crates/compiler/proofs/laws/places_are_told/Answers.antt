use Rattle.package_code.proofs.ProgramPlaces.{places_are_told}
use Rattle.source_laws.proofs.NamesTogether.{names_together}
use Rattle.compiler.proofs.laws.places_are_told.Goals as goal

pub returns : goal.returns
returns c =
    places_are_told
    (names_together c.fronts_fit.ensures c.names_are_known.ensures c.premises_hold.ensures c.scopes_are_sound.ensures c.shapes_stay.ensures
    c.starts_are_sound.ensures c.values_have_words.ensures)
    c.quiet_stays.ensures c.views_on.ensures c.views_back.ensures
    c.initial_values_have_shape.ensures c.code_leads_on.ensures.size
