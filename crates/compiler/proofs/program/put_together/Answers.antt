use Rattle.std.proofs.Common.{◌≡◌, ◌∷◌, ◌++◌, [], inl, length, refl, rules, sym, ap, ◌∙◌, subst}
use Rattle.ada_tree.specs.ProgramTree.{program_tree}
use Rattle.image.specs.declared.tasks.Task.{Task}
use Rattle.meaning.specs.Programs.{base_priority, main_task, package_bodies, package_items, program_of, tasks_among}
use Rattle.program_soundness.specs.Fronts.{front}
use Rattle.stmt_code.specs.Subprograms.{AddsMain, CallsProcedures}
use Rattle.expr_code.specs.Code.{here}
use Rattle.step_simulation.specs.part_code.specs.Bounds.{main_bound}
use Rattle.step_simulation.specs.part_code.specs.Needs.{RefusesMain, are_unknown}
use Rattle.expr_code.specs.declared.refusal.Refusal.TheVariants as refusal
use Rattle.package_code.specs.Refusing.{RefusesSections}
use Rattle.package_code.specs.Tasks.{HaveTasks}
use Rattle.package_code.proofs.Stops.{halt_refuses}
use Rattle.package_code.proofs.TasksAdded.{have_both}
use Rattle.compiler.proofs.Refusals.{labels_told, main_refused, plain_refused, row_refused, rows_told, seen_last, task_refused, walked_bodies}
use Rattle.compiler.proofs.program.put_together.Goals as goal

pub walk_over-requires : goal.walk_over-requires
walk_over-requires c =
    let t = program_tree c.args.accepted.now in
    record {
      objects = (c.tables_are_small.ensures t c.program-program.ensures.legal c.program-program.ensures.restricted).objects;
      covered = c.names_are_covered.ensures c.program-program.ensures.parsed.is.limit t c.program-program.ensures.parsed.tokens
          c.program-program.ensures.parsed.is.tree c.program-program.ensures.legal c.program-program.ensures.restricted;
      directory = c.in_ok-words.ensures.directory;
      exceptions = c.in_ok-words.ensures.globals.exceptions;
    }

pub main-requires : goal.main-requires
main-requires c =
    let t = program_tree c.args.accepted.now in
    let s = c.in_ok-walk.walk.visible.scope in
    record {
      called = subst (CallsProcedures s) (sym (c.deref.ensures.value ∙ ap (λ p. p.main.statements.items) c.program-program.ensures.same))
          (subst (λ z. CallsProcedures z t.main.statements) (sym (c.in_ok-walk.ensures.walked.scope ∙ ap (front t) c.in_ok-walk.ensures.whole))
          (c.main_may_be_added.ensures t c.program-program.ensures.legal c.program-program.ensures.restricted));
      known = (λ j. are_unknown (seen_last t c.in_ok-walk.walk c.in_ok-walk.ensures.told c.in_ok-walk.ensures.whole j)
          ((c.deref.ensures.value ∙ ap (λ p. p.main.statements.items) c.program-program.ensures.same) j))
          ∙ c.main_is_known.ensures t c.program-program.ensures.legal c.program-program.ensures.restricted;
    }

pub returns-clause-program : goal.returns-clause-program
returns-clause-program c =
    let t = program_tree c.args.accepted.now in
    let walk = c.in_ok-walk.walk in
    let words = c.in_ok-main.main in
    let draft = c.main.new.self in
    let number : c.len.result ≡ length walk.subprograms.items = search rules in
    let task : Task = c.in_ok-main_task.field-0 in
    let same : task ≡ record { name = t.main.name.name; priority = base_priority (program_of t).scope t.main.aspect; subprogram = c.len.result } =
    c.in_ok-main_task.ensures.task in
    let declared = tasks_among (program_of t).scope (package_bodies t.package_) (package_items t.package_) in
    let told = c.in_ok-words.ensures in
    let d = c.in_ok-words.field-0.directory in
    record {
      globals = record { slots = d.slots; words = c.in_ok-words.field-0.words; exceptions = c.in_ok-words.field-0.exceptions };
      are = told.globals;
      directory = d;
      slots = refl;
      told = told.directory;
      walk = walk;
      walked = c.in_ok-walk.ensures.walked;
      whole = c.in_ok-walk.ensures.whole;
      draft = draft;
      words = words;
      main = subst (λ l. AddsMain walk.visible walk.draft l words draft)
          (c.deref.ensures.value ∙ ap (λ p. p.main.statements.items) c.program-program.ensures.same) c.in_ok-main.ensures.adds;
      keeps = c.in_ok-main.ensures.keeps;
      exceptions = ap (λ e. e.items) c.in_ok-main.ensures.adds.exceptions ∙ c.in_ok-walk.ensures.walked.exceptions ∙ sym told.globals.exceptions;
      labels = c.in_ok-texts.ensures.texts;
      plain_words = refl;
      objects = told.objects;
      made = told.made;
      subprograms = c.in_ok-push-2.ensures.items ∙ ap (λ x. walk.subprograms.items ++ x ∷ []) c.in_ok-row.ensures.row;
      tasks = subst (HaveTasks t (program_of t).tasks) (sym c.in_ok-push.ensures.items)
          (have_both t declared (main_task (program_of t).scope t ∷ []) c.in_ok-tasks.tasks.items (task ∷ []) c.in_ok-tasks.ensures.have (
            record {
              name = ap (λ x. x.name) same;
              priority = ap (λ x. x.priority) same;
              duty = ap (λ x. x.subprogram) same ∙ number ∙ walked_bodies t walk c.in_ok-walk.ensures.walked c.in_ok-walk.ensures.whole;
            },
            tt,
          ));
      rows = c.split-rows.ensures.handlers;
      attachments = c.in_ok-attachments.ensures.attachments;
      instructions = refl;
    }

pub returns-clause-places : goal.returns-clause-places
unfolding returns-clause-program
returns-clause-places c = record { program = returns-clause-program c; placed = c.split-rows.ensures.places }

pub task_rows-requires : goal.task_rows-requires
task_rows-requires c = record { directory = c.in_ok-words.ensures.directory }

pub returns-clause-labels : goal.returns-clause-labels
returns-clause-labels c =
    let t = program_tree c.args.accepted.now in
    c.in_ok-texts.ensures.texts ∙ c.in_ok-main.ensures.adds.labels ∙ labels_told t c.in_ok-walk.walk c.in_ok-walk.ensures.told c.in_ok-walk.ensures.whole

pub returns-clause-rows : goal.returns-clause-rows
returns-clause-rows c =
    let t = program_tree c.args.accepted.now in
    ap length c.split-rows.ensures.handlers ∙ ap (λ r. length r.items) c.in_ok-main.ensures.adds.rows
    ∙ rows_told t c.in_ok-walk.walk c.in_ok-walk.ensures.told c.in_ok-walk.ensures.whole

pub returns-in_err-words-clause-refused : goal.returns-in_err-words-clause-refused
returns-in_err-words-clause-refused c =
    let whole = c.in_err-words.ensures.refused in
    search (rules, whole, c.from_residual.ensures)

pub returns-in_err-walk-clause-refused : goal.returns-in_err-walk-clause-refused
returns-in_err-walk-clause-refused c =
    let whole = halt_refuses (program_tree c.args.accepted.now) c.in_err-walk.field-0.0 c.in_err-walk.ensures.halts in
    search (rules, whole, c.from_residual-in_err-walk.ensures)

pub returns-in_err-main-clause-refused : goal.returns-in_err-main-clause-refused
returns-in_err-main-clause-refused c =
    let t = program_tree c.args.accepted.now in
    let why = c.in_err-main.field-0.0 in
    let walk = c.in_ok-walk.walk in
    let whole = main_refused t walk c.in_ok-walk.ensures.told c.in_ok-walk.ensures.whole why
    (subst (λ l. RefusesMain walk.visible walk.draft.code l (main_bound l) why)
    (c.deref.ensures.value ∙ ap (λ p. p.main.statements.items) c.program-program.ensures.same) c.in_err-main.ensures.refused) in
    search (rules, whole, c.from_residual-in_err-main.ensures)

pub returns-in_err-tasks-clause-refused : goal.returns-in_err-tasks-clause-refused
returns-in_err-tasks-clause-refused c =
    let whole = plain_refused (program_tree c.args.accepted.now) c.in_err-tasks.field-0.0 c.in_err-tasks.ensures.refused in
    search (rules, whole, c.from_residual-in_err-tasks.ensures)

pub returns-in_err-main_task-clause-refused : goal.returns-in_err-main_task-clause-refused
returns-in_err-main_task-clause-refused c =
    let t = program_tree c.args.accepted.now in
    let walk = c.in_ok-walk.walk in
    let many : c.len.result ≡ length walk.subprograms.items = search rules in
    let whole = task_refused t walk c.in_ok-walk.ensures.told c.in_ok-walk.ensures.whole c.len.result (many ∙ c.in_ok-walk.ensures.walked.many)
    c.in_err-main_task.field-0.0 c.in_err-main_task.ensures.refused in
    search (rules, whole, c.from_residual-in_err-main_task.ensures)

pub returns-in_err-row-clause-refused : goal.returns-in_err-row-clause-refused
returns-in_err-row-clause-refused c =
    let whole = row_refused (program_tree c.args.accepted.now) (here c.main.new.self.code) c.in_ok-main.ensures.keeps.few c.in_err-row.field-0.0
    c.in_err-row.ensures.refused in
    search (rules, whole, c.from_residual-in_err-row.ensures)

pub returns-in_err-texts-clause-refused : goal.returns-in_err-texts-clause-refused
returns-in_err-texts-clause-refused c =
    let whole = plain_refused (program_tree c.args.accepted.now) c.in_err-texts.field-0.0 c.in_err-texts.ensures.refused in
    search (rules, whole, c.from_residual-in_err-texts.ensures)

pub returns-in_err-attachments-clause-refused : goal.returns-in_err-attachments-clause-refused
returns-in_err-attachments-clause-refused c =
    let whole = plain_refused (program_tree c.args.accepted.now) c.in_err-attachments.field-0.0 c.in_err-attachments.ensures.refused in
    search (rules, whole, c.from_residual-in_err-attachments.ensures)

pub returns-in_err-push-clause-refused : goal.returns-in_err-push-clause-refused
returns-in_err-push-clause-refused c =
    let memory : RefusesSections (program_tree c.args.accepted.now) refusal.Memory = inl (inl tt) in
    search (rules, memory, c.from_residual-in_err-push.ensures)

pub returns-in_err-push-2-clause-refused : goal.returns-in_err-push-2-clause-refused
returns-in_err-push-2-clause-refused c =
    let memory : RefusesSections (program_tree c.args.accepted.now) refusal.Memory = inl (inl tt) in
    search (rules, memory, c.from_residual-in_err-push-2.ensures)
