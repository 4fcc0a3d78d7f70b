use Rattle.std.proofs.Common.{◌≡◌, ◌++◌, slice_get}
use Rattle.image.specs.Texts.{name_of}
use Rattle.waveforms.specs.Signals.{all_below}
use Rattle.waveforms.specs.Waves.{task_scope}
use Rattle.waveforms.proofs.declarations.add_tasks.Given as goal

abbrev pub invariant-loop-task : goal.invariant-loop-task
invariant-loop-task l = l.text.items ≡ l.fn.text.items ++ all_below l.task (task_scope (λ t. name_of (slice_get l.fn.tasks t)))
