use Rattle.std.proofs.Common.{◌≡◌, length, sym, ap, ◌∙◌, arith}
use Rattle.processor.specs.Layout.{RowWords, TaskRow, room_of}
use Rattle.processor.proofs.Stacking.{all_fit}
use Rattle.processor.proofs.task_state.TaskState.restore.Goals as goal

pub append-requires : goal.append-requires
append-requires c =
    let s = c.saved.inside.headers in
    let fit = all_fit (length c.saved.inside.words.items) s.running s.waiting c.saved.invariant.0 c.saved.invariant.1 c.saved.invariant.2 in
    let same : c.self.inside.width ≡ c.saved.inside.width =
    ap {A = TaskRow} (λ v. v.width) c.self.view_is ∙ (c.requires ∙ sym (ap {A = TaskRow} (λ v. v.width) c.saved.view_is)) in
    let own : c.self.inside.row.room ≡ room_of c.saved.inside.width = c.self.invariant.2 ∙ ap room_of same in
    let none : length c.truncate.new.self.words ≡ 0 = ap {A = RowWords} (λ r. length r.words) c.truncate.ensures in
    let room : c.truncate.new.self.room ≡ c.self.inside.row.room = ap {A = RowWords} (λ r. r.room) c.truncate.ensures in
    let many : length c.deref.result.now ≡ length c.saved.inside.words.items = ap length c.deref.ensures.value in
    omega (arith, fit, own, none, room, many)
