use Rattle.std.proofs.Common.{◌≡◌, drop}
use Rattle.ada_tree.specs.ExpressionTree.{elsif_value_trees}
use Rattle.types.specs.Bounds.{elsif_bounds}
use Rattle.types.proofs.extent.+bounds.Given as goal

abbrev pub invariant-elsif_bounds-loop-part : goal.invariant-elsif_bounds-loop-part
invariant-elsif_bounds-loop-part l =
    elsif_bounds l.scope l.both (elsif_value_trees (drop l.part-index l.parts)) ≡ elsif_bounds l.scope l.fn.first (elsif_value_trees l.parts)
