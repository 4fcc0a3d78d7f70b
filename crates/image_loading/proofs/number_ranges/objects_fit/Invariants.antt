use Rattle.std.proofs.Common.{drop}
use Rattle.image_loading.specs.NumberRanges.{EachOf, ObjectFits}
use Rattle.image_loading.proofs.number_ranges.objects_fit.Given as goal

abbrev pub invariant-loop-object : goal.invariant-loop-object
invariant-loop-object l = EachOf ObjectFits (drop l.object-index l.fn.objects) → EachOf ObjectFits l.fn.objects
