use Rattle.diagnostics.specs.continuations.Following.{sample}
use Rattle.diagnostics.proofs.Joined.{joined, same_token}
use Rattle.diagnostics.proofs.repairs.mending.with_token.Goals as goal

pub returns : goal.returns
returns c =
    joined c.args.front.now c.args.after.now _ _ _ _ (sample c.args.kind) (c.in_ok-tokens.ensures.items_if_clones_equal same_token) c.in_ok-push.ensures.items
    (c.in_ok-rest.ensures.items_if_clones_equal same_token) c.in_ok-append.ensures.items
