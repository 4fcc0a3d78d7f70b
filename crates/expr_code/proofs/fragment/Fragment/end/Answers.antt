use Rattle.std.proofs.Common.{rules}
use Rattle.expr_code.specs.Pieces.{narrow}
use Rattle.expr_code.proofs.fragment.Fragment.end.Goals as goal

pub returns : goal.returns
unfolding narrow
returns c = search rules
