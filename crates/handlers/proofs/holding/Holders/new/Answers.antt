use Rattle.std.proofs.Common.{◌∙◌, ap, [], slice_get}
use Rattle.handlers.specs.Holding.{held}
use Rattle.handlers.proofs.PlacesHeld.{holds_each}
use Rattle.handlers.proofs.holding.Holders.new.Goals as goal

pub invariant_of-result : goal.invariant_of-result
invariant_of-result c p =
    ap (λ numbers. slice_get numbers p) (c.in_ok-numbers.ensures ∙ ap (held 0 []) c.deref.ensures.value) ∙ holds_each c.args.ends.items p
