use Rattle.std.proofs.Common.{rules}
use Rattle.task_steps.proofs.FramesLeft.{left_if, none_if}
use Rattle.task_steps.proofs.lookups.is_full.Goals as goal

pub returns-clause-left : goal.returns-clause-left
returns-clause-left c = λ e. left_if c.args.is_task c.args.state.now.task.callers (search rules)

pub returns-clause-none : goal.returns-clause-none
returns-clause-none c = λ e. none_if c.args.is_task c.args.state.now.task.callers (search rules)
