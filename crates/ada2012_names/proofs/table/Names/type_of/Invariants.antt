use Rattle.std.proofs.Common.{◌≡◌}
use Rattle.ada2012_names.specs.Queries.{ancestor, type_of}
use Rattle.ada2012_names.proofs.table.Names.type_of.Given as goal

abbrev pub invariant-loop-left : goal.invariant-loop-left
invariant-loop-left l = ancestor l.left l.fn.self.entities l.found ≡ type_of l.fn.self.entities l.fn.id

abbrev pub decreases-loop-left : goal.decreases-loop-left
decreases-loop-left l = l.left
