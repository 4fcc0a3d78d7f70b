use Rattle.file_limits.proofs.Schedules.{schedules_end}
use Rattle.file_limits.proofs.schedules_end.Goals as goal

pub returns : goal.returns
returns c = schedules_end
