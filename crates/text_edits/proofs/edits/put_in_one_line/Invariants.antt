use Rattle.std.proofs.Common.{◌≡◌, ◌++◌, drop}
use Rattle.text_edits.specs.Edits.{in_one_line}
use Rattle.text_edits.proofs.edits.put_in_one_line.Given as goal

abbrev pub invariant-loop-c : goal.invariant-loop-c
invariant-loop-c l = l.out.items ++ in_one_line (drop l.c-index l.text) ≡ l.fn.out.items ++ in_one_line l.fn.text
