use Rattle.std.proofs.Common.{◌≡◌}
use Rattle.execution.proofs.Pushing.{Pushed}
use Rattle.execution.proofs.serving.push_results.Given as goal

abbrev pub invariant-loop-index : goal.invariant-loop-index
invariant-loop-index l = Pushed l.fn.state.task l.state.task l.words l.index × (l.state.width ≡ l.fn.state.width)
