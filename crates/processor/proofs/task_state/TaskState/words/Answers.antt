use Rattle.std.proofs.Common.{◌∷◌, sym, ap, ◌∙◌}
use Rattle.processor.specs.Layout.{TaskRow, words_in_use}
use Rattle.processor.proofs.Stacking.{words_count}
use Rattle.processor.proofs.task_state.TaskState.words.Goals as goal

pub returns : goal.returns
returns c =
    let s = c.self.inside.headers in
    let all = words_count c.self.inside.width c.self.inside.row.words (s.running ∷ s.waiting) c.self.invariant.0 in
    c.len.ensures.count ∙ (sym all ∙ ap {A = TaskRow} (λ v. words_in_use v.task) c.self.view_is)
