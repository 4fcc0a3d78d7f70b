use Rattle.std.proofs.Common.{take}
use Rattle.expr_code.specs.Appending.{Appends}
use Rattle.expr_code.specs.Code.{Extends}
use Rattle.expr_code.proofs.code.Code.add_all.Given as goal

abbrev pub invariant-loop-instruction : goal.invariant-loop-instruction
invariant-loop-instruction l = Appends l.fn.self (take l.instruction-index l.all) l.self × Extends l.fn.self l.self
