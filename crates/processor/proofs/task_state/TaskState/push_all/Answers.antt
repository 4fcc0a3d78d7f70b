use Rattle.std.proofs.Common.{◌+◌, ◌≤◌, length, sym, subst, arith}
use Rattle.processor.proofs.Stacking.{frame_length, window_fits}
use Rattle.processor.proofs.task_state.TaskState.push_all.Goals as goal

pub append-requires : goal.append-requires
append-requires c =
    let row = c.self.inside.row.words in
    let s = c.self.inside.headers in
    let own = frame_length row s.running c.self.invariant.0.0 in
    let few = subst (λ v. length v.task.frame.locals + length v.task.frame.stack + length c.args.words.now ≤ v.width) (sym c.self.view_is) c.requires in
    let room = window_fits (length row) s.running s.waiting c.self.invariant.0 c.self.invariant.1 in
    let whole = c.self.invariant.2 in
    let narrow = c.self.invariant.3 in
    omega (arith, own, few, room, whole, narrow)
