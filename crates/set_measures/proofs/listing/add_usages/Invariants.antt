use Rattle.std.proofs.Common.{◌≡◌, ◌++◌}
use Rattle.set_measures.specs.Choices.{each_below}
use Rattle.set_measures.specs.Quantities.{of_usage}
use Rattle.set_measures.proofs.listing.add_usages.Given as goal

abbrev pub invariant-loop-actor : goal.invariant-loop-actor
invariant-loop-actor l =
    l.list.items ≡ l.fn.list.items ++ each_below l.actor (λ t. each_below l.fn.objects (of_usage t))
