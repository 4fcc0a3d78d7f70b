use Rattle.std.proofs.Common.{inr}
use Rattle.tasking.proofs.tasking.Tasking.open_to_read.Goals as goal

pub opens-requires-clause-task : goal.opens-requires-clause-task
opens-requires-clause-task g c = inr c.requires.running
