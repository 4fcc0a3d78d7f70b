-- The laws of names on which those of texts stand, as one record.
use Rattle.types.specs.Laws.{ShapesStay, ValuesHaveWords}
use Rattle.expr_soundness.specs.Laws.{ScopesAreSound}
use Rattle.program_soundness.specs.BodyLaws.{FrontsFit, NamesAreKnown, PremisesHold}
use Rattle.program_soundness.specs.ProgramLaws.{StartsAreSound}
use Rattle.package_code.proofs.InFront.{LawsOfNames}

pub names_together : FrontsFit → NamesAreKnown → PremisesHold → ScopesAreSound → ShapesStay → StartsAreSound → ValuesHaveWords → LawsOfNames
names_together fronts names premises scopes stay starts sized =
    record { sized = sized; stay = stay; scopes = scopes; names = names; premises = premises; starts = starts; fronts = fronts }
