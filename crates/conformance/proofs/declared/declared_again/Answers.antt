use Rattle.std.proofs.Common.{ap, sym, ◌∙◌, ◌||◌, not, ◌&&◌}
use Rattle.conformance.specs.Tables.{are_alike, profile_tree, is_unlike}
use Rattle.conformance.proofs.Alike.{unlike_again}
use Rattle.conformance.proofs.declared.declared_again.Goals as goal

pub returns-in-Some : goal.returns-in-Some
returns-in-Some c p =
    let first = profile_tree c.in-Some.declared.profile in
    let more = profile_tree c.args.profile in
    ap (λ b. not (b && are_alike first p)) c.are_like.ensures
    ∙ unlike_again c.in-Some.declared.is_alike first more p
    ∙ ap (λ o. is_unlike o p || not (are_alike more p)) (sym c.in-Some.is)
