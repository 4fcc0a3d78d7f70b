use Rattle.std.proofs.Common.{length, take, sym, ap, ◌∙◌}
use Rattle.processor.specs.Layout.{TaskRow}
use Rattle.processor.proofs.Stacking.{frames_count}
use Rattle.processor.proofs.task_state.TaskState.callers.Goals as goal

pub returns : goal.returns
returns c =
    let s = c.self.inside.headers in
    c.waiting.ensures.count ∙ (sym (frames_count (take s.running.base c.self.inside.row.words) s.waiting) ∙ ap {A = TaskRow} (λ v. length v.task.callers) c.self.view_is)
