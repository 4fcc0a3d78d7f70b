use Rattle.std.proofs.Common.{ap, ◌∙◌}
use Rattle.kernel.specs.Clock.{clock}
use Rattle.kernel.specs.Dispatching.{dispatch}
use Rattle.tasking.proofs.tasking.Tasking.finish.Goals as goal

pub returns : goal.returns
returns g c = c.settle.ensures ∙ ap (λ k. clock (dispatch k)) c.leaves.ensures.moved
