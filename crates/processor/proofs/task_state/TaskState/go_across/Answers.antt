use Rattle.std.proofs.Common.{◌≡◌, ◌-◌, None, sym, ap, subst, ◌∙◌}
use Rattle.image.specs.Frames.{TaskState}
use Rattle.image_laws.specs.Shape.{IsSound}
use Rattle.kernel.specs.State.{is_task}
use Rattle.processor.specs.Decoding.{words_in}
use Rattle.processor.specs.Laws.{TaskWentOn}
use Rattle.processor.specs.Layout.{TaskRow, task_in}
use Rattle.processor.proofs.task_state.TaskState.go_across.Goals as goal

pub returns-clause-went : goal.returns-clause-went
returns-clause-went g c = λ schedule k t before calm.
    let i = c.args.program.now in
    let within = c.go_across-within in
    let m = words_in i c.args.shared.now in
    let w = words_in i within.new.shared in
    let task = ap {A = TaskRow} (λ q. q.task) c.self.view_is in
    let quiet = ap {A = TaskState} (λ q. q.raising) task ∙ c.requires.quiet in
    let row = c.self.inside.row.words in
    let new = within.new.self.words in
    let same : task_in row c.self.inside.headers None ≡ task_in row c.self.inside.headers c.self.inside.raising = λ j. task_in row c.self.inside.headers (sym quiet j) in
    let first = same ∙ task in
    let last : task_in new within.new.headers None ≡ task_in new within.new.headers c.self.inside.raising = λ j. task_in new within.new.headers (sym quiet j) in
    subst (λ q. TaskWentOn i schedule k t (c.args.limit - q.left) m c.args.self.now.task w (task_in new within.new.headers c.self.inside.raising) q.stop) (sym c.same.ensures)
    (subst (λ v. TaskWentOn i schedule k t (c.args.limit - within.result.left) m c.args.self.now.task w v within.result.stop) last
    (subst (λ u. TaskWentOn i schedule k t (c.args.limit - within.result.left) m u w (task_in new within.new.headers None) within.result.stop) first (within.ensures.went schedule k t (subst (IsSound i (is_task k.partition t)) (sym first) before) calm)))
