use Rattle.std.proofs.Common.{◌≡◌, drop}
use Rattle.expr_code.specs.Pieces.{adds}
use Rattle.stmt_code.specs.WholeCode.{calls_code}
use Rattle.stmt_code.proofs.main_calls.add_main.Given as goal

abbrev pub invariant-loop-statement : goal.invariant-loop-statement
invariant-loop-statement l =
    adds l.fragment (calls_code l.visible (drop l.statement-index l.statements)) ≡ adds l.fn.fragment (calls_code l.visible l.statements)
