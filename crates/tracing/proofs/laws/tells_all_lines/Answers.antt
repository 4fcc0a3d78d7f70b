use Rattle.tracing.proofs.Rows.{all_lines}
use Rattle.tracing.proofs.laws.tells_all_lines.Goals as goal

pub returns : goal.returns
returns c = λ i schedule n. all_lines i schedule c.lines_grow_on.ensures c.left_unmoved.ensures n
