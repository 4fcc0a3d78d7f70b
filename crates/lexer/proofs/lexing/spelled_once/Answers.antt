use Rattle.std.proofs.Common.{length, arith}
use Rattle.lexer.proofs.Rows.{one_row}
use Rattle.lexer.proofs.lexing.spelled_once.Goals as goal

pub returns : goal.returns
returns c = λ text tokens others first second. one_row (length text) (length text) 0 text tokens others (omega arith) first.row second.row
