use Rattle.std.proofs.Common.{ap, ◌∙◌}
use Rattle.types.specs.Layouts.{capped, words_of}
use Rattle.types.proofs.Sizes.{kept_words, no_words}
use Rattle.types.proofs.scope.Scope.words.Goals as goal

pub returns-in-Some : goal.returns-in-Some
returns-in-Some c =
    kept_words c.self.inside.names.entries c.args.subtype (c.in-Some.field-0-0.now, c.in-Some.declared.now) c.self.invariant.0 c.in-Some.ensures.entry
    ∙ ap (λ s. capped (words_of s c.args.subtype)) c.self.view_is

pub returns-in-None : goal.returns-in-None
returns-in-None c = no_words c.self.inside.names.entries c.args.subtype c.self.invariant.0 c.in-None.ensures.entry ∙ ap (λ s. capped (words_of s c.args.subtype)) c.self.view_is
