use Rattle.std.proofs.Common.{◌≡◌, ◌∷◌, ◌++◌, ◌+◌, [], map, length, length-append, false, None, ap, subst, sym, ◌∙◌}
use Rattle.image.specs.Rules.{IsWellFormed}
use Rattle.image_laws.specs.Room.{widest}
use Rattle.std.proofs.lemmas.List.{length-map}
use Rattle.processor.specs.Decoding.{words_in}
use Rattle.processor.specs.Layout.{TaskRow}
use Rattle.execution.specs.Held.{HeldWorld, RowsAreWide, begun, body_state, prepared, task_at, tasks_in, world_of}
use Rattle.execution.proofs.RowsOf.{body_rows, body_tasks, body_wide, task_append, wide_append}
use Rattle.execution.proofs.Starting.{tasks_begun}
use Rattle.execution.proofs.state.State.new.Goals as goal

pub prepare_if_begun-requires : goal.prepare_if_begun-requires
prepare_if_begun-requires g c =
    let image = c.args.image.now in
    let starts = c.steps_whole.ensures.starts image c.instructions-instructions.ensures.well_formed c.args.schedule.now in
    ap (λ k. k.partition.tasks) c.in_ok-tasking.ensures ∙ (ap (λ p. p.tasks) starts.partition ∙ sym (ap (λ i. length i.tasks) c.in_ok-program.ensures))

pub returns-clause-world : goal.returns-clause-world
returns-clause-world g c =
    let image = c.args.image.now in
    let items = c.in_ok-tasks.tasks.items in
    let last = c.in_ok-new.field-0 in
    let same = c.in_ok-program.ensures in
    let all = c.in_ok-tasks.ensures ∙ ap (λ i. body_rows i (widest i) i.tasks) same in
    let tasks : tasks_in items ≡ map (λ t. body_state image t.subprogram) image.tasks = ap tasks_in all ∙ body_tasks image (widest image) image.tasks in
    let rows : tasks_in c.push.new.self.items ≡ tasks_in items ++ last.task ∷ [] = ap tasks_in c.in_ok-push.ensures.items ∙ task_append items last in
    let handler = c.in_ok-tasking.tasking.handler in
    ap {A = HeldWorld} world_of c.prepare_if_begun.ensures.state
    ∙ (λ j. record {
      kernel = c.in_ok-tasking.ensures j;
      rest = record {
        memory = (ap (λ i. words_in i c.in_ok-memory.memory.shared) same ∙ c.in_ok-memory.ensures.words) j;
        tasks =
            ((λ k. task_at (same k) handler (prepared (same k) (rows k) (begun None false handler)))
            ∙ (λ k. λ t. tasks_begun image (tasks_in items) last.task tasks handler t k)) j;
      };
    })

pub invariant_of-state : goal.invariant_of-state
invariant_of-state g c =
    let program = c.in_ok-program.program in
    let width = widest program in
    let items = c.in_ok-tasks.tasks.items in
    let last = c.in_ok-new.field-0 in
    let pushed = c.in_ok-push.ensures.items in
    let all : items ≡ body_rows program width program.tasks = c.in_ok-tasks.ensures in
    let wide : RowsAreWide width items = subst (RowsAreWide width) (sym all) (body_wide program width program.tasks) in
    let last_wide : last.width ≡ width = ap {A = TaskRow} (λ r. r.width) c.in_ok-new.ensures ∙ c.width.ensures.is in
    let many : length items ≡ length program.tasks = ap length all ∙ length-map program.tasks (λ t. record { task = body_state program t.subprogram; width = width }) in (
      subst IsWellFormed (sym c.in_ok-program.ensures) c.instructions-instructions.ensures.well_formed,
      ap length pushed ∙ (length-append items (last ∷ []) ∙ ap (λ n. n + 1) many),
      subst (RowsAreWide width) (sym pushed) (wide_append width items last wide last_wide),
    )
