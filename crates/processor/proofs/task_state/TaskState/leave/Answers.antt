use Rattle.std.proofs.Common.{ℕ, ◌+◌, ◌-◌, ◌≤◌, [], ◌∷◌, ◌++◌, List, length, take, drop, sym, ap, subst, ◌∙◌}
use Rattle.image.specs.Frames.{Frame}
use Rattle.processor.specs.Layout.{CanReturn, returned, task_in}
use Rattle.processor.specs.declared.header.Header.{Header}
use Rattle.processor.proofs.Stacking.{returned_task}
use Rattle.processor.proofs.task_state.TaskState.leave.Goals as goal

results_there : (width n : ℕ) (f : Frame) (fs : List Frame) → CanReturn width n f fs → n ≤ length f.stack
results_there width n f [] can = absurd can
results_there width n f (c ∷ cs) can = can.0

pub returns : goal.returns
returns c =
    let row = c.self.inside.row.words in
    let s = c.self.inside.headers in
    let raising = c.self.inside.raising in
    let n = c.args.results in
    let rest = c.pop.new.self in
    let base = ap {A = Header} (λ h. h.base) c.running.ensures in
    let there = subst (λ v. n ≤ length v.task.frame.stack) (sym c.self.view_is) (results_there c.args.self.now.width n c.args.self.now.task.frame c.args.self.now.task.callers c.requires) in
    let task = (λ j. task_in (c.move_down.ensures j).words (c.advance.ensures j) raising)
    ∙ ((λ j. task_in (take (base j) row ++ drop (length row - c.from.ensures j) row) (record rest { running = record rest.running { place = rest.running.place + 1 } }) raising)
    ∙ (returned_task row s rest raising c.self.invariant.0 c.pop.ensures n there
    ∙ (λ j. returned n (c.self.view_is j).task (c.self.view_is j).task.callers))) in
    λ j. record { task = task j; width = (c.self.view_is j).width }
