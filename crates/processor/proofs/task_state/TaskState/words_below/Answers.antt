use Rattle.std.proofs.Common.{◌≡◌, length, take, sym, ap, subst, ◌∙◌, arith}
use Rattle.std.proofs.lemmas.List.{length-take-le}
use Rattle.processor.specs.Layout.{AreStacked, TaskRow, words_of_frames}
use Rattle.processor.specs.declared.header.Header.{Header}
use Rattle.processor.proofs.Stacking.{words_count}
use Rattle.processor.proofs.task_state.TaskState.words_below.Goals as goal

pub returns : goal.returns
returns c =
    let s = c.self.inside.headers in
    let words = c.self.inside.row.words in
    let stacked = c.self.invariant.0 in
    let low = stacked.0.locals in
    let before : length (take s.running.base words) ≡ s.running.base = length-take-le s.running.base words (omega (arith, low)) in
    let below = words_count c.self.inside.width (take s.running.base words) s.waiting (subst (λ n. AreStacked c.self.inside.width n s.waiting) (sym before) stacked.1) in
    ap {A = Header} (λ h. h.base) c.running.ensures ∙ sym before ∙ sym below ∙ ap {A = TaskRow} (λ v. words_of_frames v.task.callers) c.self.view_is
