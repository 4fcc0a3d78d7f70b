use Rattle.std.proofs.Common.{◌∙◌, slice_get}
use Rattle.image.specs.Texts.{name_of}
use Rattle.waveforms.specs.Waves.{task_scope}
use Rattle.waveforms.proofs.Added.{one_added}
use Rattle.waveforms.proofs.declarations.add_tasks.Goals as goal

pub loop-task-preserved : goal.loop-task-preserved
loop-task-preserved c =
    one_added _ _ _ (task_scope (λ t. name_of (slice_get c.args.tasks.now t))) c.loop-task.task _ c.loop-task.invariant c.in_ok-extend_from_slice.ensures.items (c.as_slice.ensures.value ∙ c.task_scope.ensures)
