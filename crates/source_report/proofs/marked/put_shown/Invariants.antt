use Rattle.std.proofs.Common.{◌≡◌, ◌++◌, drop, map}
use Rattle.source_report.specs.Marked.{shown}
use Rattle.source_report.proofs.marked.put_shown.Given as goal

-- what is left is still to be added
abbrev pub invariant-loop-c : goal.invariant-loop-c
invariant-loop-c l = l.out.items ++ map shown (drop l.c-index l.fn.piece) ≡ l.fn.out.items ++ map shown l.fn.piece
