use Rattle.std.proofs.Common.{ap, ◌∙◌, ◌||◌, not}
use Rattle.conformance.specs.Tables.{are_alike, is_unlike, profile_tree}
use Rattle.conformance.proofs.Alike.{declared_more}
use Rattle.conformance.proofs.declared.Profiles.declare.Goals as goal

pub returns : goal.returns
returns c =
    declared_more c.args.self.now.table.entries c.insert.new.self.entries c.args.key c.declared_again-declared.result (profile_tree c.args.profile)
    c.in_ok-insert.ensures.updates.0
    (λ p. c.declared_again-declared.ensures p ∙ ap (λ o. is_unlike o p || not (are_alike (profile_tree c.args.profile) p)) c.declared.ensures)
