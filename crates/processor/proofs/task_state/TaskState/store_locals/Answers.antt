use Rattle.std.proofs.Common.{◌+◌, ◌≤◌, length, sym, ap, subst, ◌∙◌, arith}
use Rattle.processor.specs.Decoding.{with_block}
use Rattle.processor.specs.Layout.{RowWords, TaskRow, task_in}
use Rattle.processor.specs.declared.header.Header.{Header}
use Rattle.processor.proofs.Stacking.{frame_length, stored, window_fits}
use Rattle.processor.proofs.task_state.TaskState.store_locals.Goals as goal

pub overflow_add-base : goal.overflow_add-base
overflow_add-base c =
    let row = c.self.inside.row.words in
    let s = c.self.inside.headers in
    let own = frame_length row s.running c.self.invariant.0.0 in
    let few = c.self.invariant.0.0.few in
    let room = window_fits (length row) s.running s.waiting c.self.invariant.0 c.self.invariant.1 in
    let base = ap {A = Header} (λ h. h.base) c.running.ensures in
    let within = subst (λ v. c.args.at + length c.args.words.now ≤ length v.task.frame.locals) (sym c.self.view_is) c.requires in
    let whole = c.self.invariant.2 in
    let narrow = c.self.invariant.3 in
    omega (arith, own, few, room, base, within, whole, narrow)

pub returns : goal.returns
returns c =
    let row = c.self.inside.row.words in
    let s = c.self.inside.headers in
    let raising = c.self.inside.raising in
    let at = c.args.at in
    let words = c.args.words.now in
    let base = ap {A = Header} (λ h. h.base) c.running.ensures in
    let within = subst (λ v. at + length words ≤ length v.task.frame.locals) (sym c.self.view_is) c.requires in
    let task = ap {A = RowWords} (λ w. task_in w.words s raising) c.write.ensures
    ∙ ((λ j. task_in (with_block row (base j + at) words) s raising)
    ∙ (stored row s raising c.self.invariant.0.0 at words within ∙ ap {A = TaskRow} (λ v. record v.task { frame = record v.task.frame { locals = with_block v.task.frame.locals at words } }) c.self.view_is)) in
    λ j. record { task = task j; width = (c.self.view_is j).width }
