use Rattle.std.proofs.Common.{◌≡◌}
use Rattle.ada2012_names.proofs.table.Names.of_text.Given as goal

abbrev pub invariant-loop-use_ : goal.invariant-loop-use_
invariant-loop-use_ l = l.names.whole ≡ l.fn.whole
