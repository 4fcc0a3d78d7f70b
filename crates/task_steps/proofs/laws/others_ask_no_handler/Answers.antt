use Rattle.task_steps.proofs.Raises.{stays}
use Rattle.task_steps.proofs.laws.others_ask_no_handler.Goals as goal

pub returns : goal.returns
returns c = λ i schedule k t s none rows. ((stays i schedule k t s none rows).1, (stays i schedule k t s none i.rows).0)
