use Rattle.file_limits.proofs.Choices.{choices_end}
use Rattle.file_limits.proofs.choices_end.Goals as goal

pub returns : goal.returns
returns c = choices_end
