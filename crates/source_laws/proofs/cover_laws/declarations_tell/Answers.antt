use Rattle.source_laws.proofs.CoveredTexts.{declarations_tell}
use Rattle.source_laws.proofs.NamesTogether.{names_together}
use Rattle.source_laws.proofs.cover_laws.declarations_tell.Goals as goal

pub returns : goal.returns
returns c =
    declarations_tell
    (names_together c.fronts_fit.ensures c.names_are_known.ensures c.premises_hold.ensures c.scopes_are_sound.ensures c.shapes_stay.ensures
    c.starts_are_sound.ensures c.values_have_words.ensures)
    (record {
      declarations = c.declarations_are_sound.ensures;
      objects = c.objects_are_sound.ensures;
      limits = c.fronts_keep_limits.ensures;
    })
