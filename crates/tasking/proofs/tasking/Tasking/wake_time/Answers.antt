use Rattle.std.proofs.Common.{ap, sym, ◌∙◌}
use Rattle.tasking.specs.Held.{kernel_of}
use Rattle.tasking.specs.Waits.{wake_time}
use Rattle.tasking.proofs.Moves.{seen}
use Rattle.tasking.proofs.Waking.{wake_same}
use Rattle.tasking.proofs.tasking.Tasking.wake_time.Goals as goal

pub returns : goal.returns
returns g c =
    c.wake_time.ensures ∙ (sym (wake_same c.args.task (seen c.self.view_is).sleepers) ∙ ap (λ v. wake_time c.args.task (kernel_of v).sleepers) c.self.view_is)
