use Rattle.package_code.proofs.Linking.{sections_mean_the_same}
use Rattle.source_laws.proofs.NamesTogether.{names_together}
use Rattle.compiler.proofs.laws.sections_mean_the_same.Goals as goal

pub returns : goal.returns
returns c =
    sections_mean_the_same
    (names_together c.fronts_fit.ensures c.names_are_known.ensures c.premises_hold.ensures c.scopes_are_sound.ensures c.shapes_stay.ensures
    c.starts_are_sound.ensures c.values_have_words.ensures)
    c.quiet_stays.ensures c.views_on.ensures c.views_back.ensures
    c.initial_values_have_shape.ensures c.code_leads_on.ensures.size c.linked_means_the_same.ensures c.linked_keeps_count.ensures
