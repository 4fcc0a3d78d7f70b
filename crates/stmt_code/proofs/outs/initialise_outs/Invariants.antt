use Rattle.std.proofs.Common.{◌≡◌, drop}
use Rattle.expr_code.specs.Pieces.{adds}
use Rattle.stmt_code.specs.WholeCode.{outs_code}
use Rattle.stmt_code.proofs.outs.initialise_outs.Given as goal

abbrev pub invariant-loop-formal : goal.invariant-loop-formal
invariant-loop-formal l = adds l.fragment (outs_code l.visible (drop l.formal-index l.formals)) ≡ adds l.fn.fragment (outs_code l.visible l.formals)
