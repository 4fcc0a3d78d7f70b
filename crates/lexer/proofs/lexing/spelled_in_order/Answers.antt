use Rattle.lexer.proofs.Rows.{row_in_order}
use Rattle.lexer.proofs.lexing.spelled_in_order.Goals as goal

pub returns : goal.returns
returns c = λ text tokens spells. row_in_order spells.row
