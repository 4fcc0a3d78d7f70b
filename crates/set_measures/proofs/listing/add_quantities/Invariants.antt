use Rattle.std.proofs.Common.{◌≡◌, ◌++◌, drop, map}
use Rattle.set_measures.specs.declared.measure.Measure.TheVariants.{OfActor}
use Rattle.set_measures.proofs.listing.add_quantities.Given as goal

abbrev pub invariant-loop-quantity : goal.invariant-loop-quantity
invariant-loop-quantity l =
    l.list.items ++ map (OfActor l.actor) (drop l.quantity-index l.quantities) ≡ l.fn.list.items ++ map (OfActor l.fn.actor) l.fn.quantities
