use Rattle.std.proofs.Common.{◌∙◌, slice_get, subst}
use Rattle.remedies.specs.TextTokens.{BeginFrom, if_begins_at}
use Rattle.remedies.proofs.Ordered.{found_at}
use Rattle.remedies.proofs.text_tokens.TextTokens.at.Goals as goal

pub returns : goal.returns
returns c =
    let place = c.args.place in
    c.if_begins_at.ensures
    ∙ (λ j. if_begins_at place (slice_get (c.tokens.ensures.same j) (c.count_before.ensures.count j)))
    ∙ found_at place 0 c.args.self.now (subst (BeginFrom 0) c.tokens.ensures.same c.tokens.ensures.in_order)
