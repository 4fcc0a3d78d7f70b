use Rattle.std.proofs.Common.{◌≡◌, ◌++◌}
use Rattle.set_measures.specs.Choices.{each_below}
use Rattle.set_measures.specs.Quantities.{of_usage}
use Rattle.set_measures.proofs.listing.add_usages_of.Given as goal

abbrev pub invariant-loop-object : goal.invariant-loop-object
invariant-loop-object l =
    l.list.items ≡ l.fn.list.items ++ each_below l.object (of_usage l.fn.actor)
