use Rattle.std.proofs.Common.{◌-◌, length}
use Rattle.stmt_code.proofs.WholesMade.{HasGiven}
use Rattle.stmt_code.proofs.returning.return_all.Given as goal

abbrev pub invariant-loop-given : goal.invariant-loop-given
invariant-loop-given l = HasGiven l.scope l.fn.fragment l.formals (length l.formals - l.given) l.height l.fragment
