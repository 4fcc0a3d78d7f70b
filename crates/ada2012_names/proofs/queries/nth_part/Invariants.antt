use Rattle.std.proofs.Common.{◌≡◌, drop, slice_get}
use Rattle.ada2012_names.specs.Queries.{parts_from}
use Rattle.ada2012_names.proofs.queries.nth_part.Given as goal

abbrev pub invariant-loop-number : goal.invariant-loop-number
invariant-loop-number l =
    slice_get (parts_from l.fn.owner l.number (drop l.number l.fn.entities)) l.left ≡ slice_get (parts_from l.fn.owner 0 l.fn.entities) l.fn.place
