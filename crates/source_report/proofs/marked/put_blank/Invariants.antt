use Rattle.std.proofs.Common.{◌≡◌, ◌++◌, drop, map}
use Rattle.source_report.specs.Marked.{blank}
use Rattle.source_report.proofs.marked.put_blank.Given as goal

-- what is left is still to be added
abbrev pub invariant-loop-c : goal.invariant-loop-c
invariant-loop-c l = l.out.items ++ map blank (drop l.c-index l.fn.piece) ≡ l.fn.out.items ++ map blank l.fn.piece
