use Rattle.std.proofs.Common.{ap, ◌∙◌}
use Rattle.std.specs.Map.{keys_of}
use Rattle.size_rules.proofs.Labelling.{added}
use Rattle.size_rules.proofs.passing.Labels.add.Goals as goal

pub returns-in_ok-push-clause-used : goal.returns-in_ok-push-clause-used
returns-in_ok-push-clause-used c =
    ap (λ l. keys_of l) c.in_ok-insert.ensures.entries
    ∙ added c.self.inside.texts.entries c.args.self.now c.args.thing.now c.in-Label.text c.in_ok-clone.field-0 c.in-Label.place _ c.has.result c.in-Label.is
    c.self.view_is
    c.has.ensures
    c.if-not-has.true
    c.in_ok-clone.ensures.cases
