use Rattle.std.proofs.Common.{length, ap, ◌∙◌}
use Rattle.processor.specs.Layout.{words_in_use}
use Rattle.execution.specs.Ahead.{frame_use}
use Rattle.execution.proofs.state.State.frames.Goals as goal

pub returns : goal.returns
returns g c = (λ j. record { below = c.callers.ensures j; words = c.words.ensures j }) ∙ ap frame_use c.task-state.ensures
