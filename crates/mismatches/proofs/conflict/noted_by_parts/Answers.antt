use Rattle.mismatches.proofs.Noted.{noted_append}
use Rattle.mismatches.proofs.conflict.noted_by_parts.Goals as goal

pub returns : goal.returns
returns c = noted_append
