use Rattle.std.proofs.Common.{◌-◌, ◌≤◌, length, drop, sym, ap, subst, ◌∙◌}
use Rattle.image.specs.Frames.{arguments}
use Rattle.processor.specs.Layout.{TaskRow}
use Rattle.processor.proofs.Stacking.{top_is}
use Rattle.processor.proofs.task_state.TaskState.top.Goals as goal

pub returns : goal.returns
returns c =
    let row = c.self.inside.row.words in
    let s = c.self.inside.headers in
    let n = c.args.count in
    let there = subst (λ v. n ≤ length v.task.frame.stack) (sym c.self.view_is) c.requires in
    c.from-2.ensures
    ∙ ((λ j. drop (c.len.ensures.count j - c.from.ensures j) row)
    ∙ (top_is row s c.self.inside.raising c.self.invariant.0.0 n there ∙ ap {A = TaskRow} (λ v. arguments n v.task.frame.stack) c.self.view_is))
