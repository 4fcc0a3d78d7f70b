use Rattle.std.proofs.Common.{ap, ◌∙◌}
use Rattle.kernel.specs.Interrupts.{actor_if}
use Rattle.tasking.specs.Held.{kernel_of}
use Rattle.tasking.proofs.Delivering.{asked_handler}
use Rattle.tasking.proofs.Moves.{seen}
use Rattle.tasking.proofs.tasking.Tasking.handler.Goals as goal

pub returns-clause-running : goal.returns-clause-running
returns-clause-running g c =
    asked_handler (seen c.self.view_is) c.self.invariant.handles
    ∙ ap (λ v. actor_if (kernel_of v).partition (kernel_of v).running) c.self.view_is
