use Rattle.std.proofs.Common.{◌≡◌}
use Rattle.lowering.proofs.lowering.edits_of.Given as goal

abbrev pub invariant-loop-request : goal.invariant-loop-request
invariant-loop-request l = l.edits.text ≡ l.text
