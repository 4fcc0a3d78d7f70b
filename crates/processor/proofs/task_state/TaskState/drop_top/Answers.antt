use Rattle.std.proofs.Common.{◌-◌, ◌≤◌, length, take, drop, sym, ap, subst, ◌∙◌}
use Rattle.processor.specs.Layout.{RowWords, TaskRow, task_in}
use Rattle.processor.proofs.Stacking.{dropped}
use Rattle.processor.proofs.task_state.TaskState.drop_top.Goals as goal

pub returns : goal.returns
returns c =
    let row = c.self.inside.row.words in
    let s = c.self.inside.headers in
    let raising = c.self.inside.raising in
    let n = c.args.count in
    let there = subst (λ v. n ≤ length v.task.frame.stack) (sym c.self.view_is) c.requires in
    let task = ap {A = RowWords} (λ w. task_in w.words s raising) c.truncate.ensures
    ∙ ((λ j. task_in (take (c.len.ensures.count j - c.from.ensures j) row) s raising)
    ∙ (dropped row s raising c.self.invariant.0.0 n there ∙ ap {A = TaskRow} (λ v. record v.task { frame = record v.task.frame { stack = drop n v.task.frame.stack } }) c.self.view_is)) in
    λ j. record { task = task j; width = (c.self.view_is j).width }
