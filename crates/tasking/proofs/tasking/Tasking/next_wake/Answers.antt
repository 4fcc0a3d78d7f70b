use Rattle.std.proofs.Common.{ap, sym, ◌∙◌}
use Rattle.tasking.specs.Held.{kernel_of}
use Rattle.tasking.specs.Orderly.{least_of}
use Rattle.tasking.proofs.Moves.{seen}
use Rattle.tasking.proofs.Waking.{next_same}
use Rattle.tasking.proofs.tasking.Tasking.next_wake.Goals as goal

pub returns : goal.returns
returns g c = c.next_time.ensures ∙ (sym (next_same (seen c.self.view_is).sleepers) ∙ ap (λ v. least_of (kernel_of v).sleepers) c.self.view_is)
