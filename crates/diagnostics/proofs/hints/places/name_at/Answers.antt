use Rattle.std.proofs.Common.{◌∙◌, ap}
use Rattle.diagnostics.specs.hints.Places.{name_of_token}
use Rattle.diagnostics.proofs.Named.{named}
use Rattle.diagnostics.proofs.hints.places.name_at.Goals as goal

pub returns : goal.returns
returns c = c.name_of_token.ensures ∙ ap name_of_token c.at.ensures ∙ named c.args.place c.args.tokens.now
