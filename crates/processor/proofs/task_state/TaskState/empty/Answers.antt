use Rattle.std.proofs.Common.{◌+◌, [], length, take, ap, ◌∙◌, arith}
use Rattle.processor.specs.Layout.{RowWords, TaskRow, task_in}
use Rattle.processor.specs.declared.header.Header.{Header}
use Rattle.processor.proofs.Stacking.{emptied, window_fits}
use Rattle.processor.proofs.task_state.TaskState.empty.Goals as goal

pub overflow_add-end_ : goal.overflow_add-end_
overflow_add-end_ c =
    let row = c.self.inside.row.words in
    let s = c.self.inside.headers in
    let lies = c.self.invariant.0.0 in
    let a = lies.locals in
    let b = lies.few in
    let room = window_fits (length row) s.running s.waiting c.self.invariant.0 c.self.invariant.1 in
    let base = ap {A = Header} (λ h. h.base) c.running-running.ensures in
    let locals = c.from.ensures ∙ ap {A = Header} (λ h. h.locals) c.running-running.ensures in
    let whole = c.self.invariant.2 in
    let narrow = c.self.invariant.3 in
    omega (arith, a, b, room, base, locals, whole, narrow)

pub returns : goal.returns
returns c =
    let row = c.self.inside.row.words in
    let s = c.self.inside.headers in
    let raising = c.self.inside.raising in
    let base = ap {A = Header} (λ h. h.base) c.running-running.ensures in
    let locals = c.from.ensures ∙ ap {A = Header} (λ h. h.locals) c.running-running.ensures in
    let task = ap {A = RowWords} (λ w. task_in w.words s raising) c.truncate.ensures
    ∙ ((λ j. task_in (take (base j + locals j) row) s raising)
    ∙ (emptied row s raising c.self.invariant.0.0 ∙ ap {A = TaskRow} (λ v. record v.task { frame = record v.task.frame { stack = [] } }) c.self.view_is)) in
    λ j. record { task = task j; width = (c.self.view_is j).width }
