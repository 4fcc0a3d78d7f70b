-- The tasks of a program beside the rows of an image's table: as many, with the same names and priorities, and each stands at the beginning of its work.
use Rattle.std.proofs.Common.{◌≡◌, ◌<◌, ℕ, zero, suc, List, [], ◌∷◌, ◌++◌, length, map, None, Option, Some, refl, sym, ap, ◌∙◌, subst, arith}
use Rattle.std.specs.Prelude.{slice_get}
use Rattle.kernel.specs.State.{Kernel}
use Rattle.image.specs.Sections.{Sections, object_of}
use Rattle.image.specs.Operations.{called}
use Rattle.image.specs.Texts.{name_of, text_at}
use Rattle.image.specs.Frames.{TaskState, kind_of}
use Rattle.image.specs.Code.{body_frame, body_of, priority_of}
use Rattle.image.specs.declared.tasks.Task as rows
use Rattle.ada_tree.specs.StatementTree.{DeclarationTree, HandlerTrees, StmtTrees}
use Rattle.ada_tree.specs.declared.program.MainStatement.{MainStatement}
use Rattle.meaning.specs.Programs.{Duty, OfBody, OfMain, Program, Task, priority_or_highest, task_name}
use Rattle.meaning.specs.Source.{duty_items, items_work, task_items}
use Rattle.meaning.specs.Works.{Declares, DoesMain, Sequence, TaskWork, ends_of_calls}
use Rattle.expr_code.specs.Seeing.{Package}
use Rattle.step_simulation.specs.part_code.specs.Statements.{Numbers}
use Rattle.step_simulation.specs.Standing.{CodeStands, Going, Note}
use Rattle.package_code.specs.Linked.{AreLinkedTasks, IsLinkedTask}

-- ---- no call waits below the body of a task

body_ends : (ds : List DeclarationTree) (body : StmtTrees) (hs : HandlerTrees) → 0 ≡ ends_of_calls (map Declares ds ++ Sequence body hs ∷ [])
body_ends [] body hs = refl
body_ends (d ∷ ds) body hs = body_ends ds body hs

main_ends : (all : List MainStatement) → 0 ≡ ends_of_calls (map DoesMain all)
main_ends [] = refl
main_ends (s ∷ rest) = main_ends rest

duty_ends : (duty : Duty) → 0 ≡ ends_of_calls (duty_items duty)
duty_ends (OfBody b) = body_ends b.declarations b.statements b.handlers
duty_ends (OfMain statements) = main_ends statements

module _ (program : Program) (i : Sections) (g : Package) (numbers : Numbers) where
  abbrev Linked : List Task → List rows.Task → Type 0
  Linked tasks table = AreLinkedTasks program i g numbers tasks table

  pub as_many : (tasks : List Task) (table : List rows.Task) → Linked tasks table → length tasks ≡ length table
  as_many [] [] h = refl
  as_many (task ∷ tasks) (row ∷ table) h = ap suc (as_many tasks table h.1)
  as_many [] (row ∷ table) h = absurd h
  as_many (task ∷ tasks) [] h = absurd h

  pub same_priority : (tasks : List Task) (table : List rows.Task) → Linked tasks table → (u : ℕ)
      → priority_or_highest (slice_get tasks u) ≡ priority_of (slice_get table u)
  same_priority [] [] h u = refl
  same_priority (task ∷ tasks) (row ∷ table) h zero = sym h.0.priority
  same_priority (task ∷ tasks) (row ∷ table) h (suc u) = same_priority tasks table h.1 u
  same_priority [] (row ∷ table) h u = absurd h
  same_priority (task ∷ tasks) [] h u = absurd h

  pub same_name : (tasks : List Task) (table : List rows.Task) → Linked tasks table → (u : ℕ)
      → name_of (slice_get table u) ≡ text_at (map task_name tasks) u
  same_name [] [] h u = refl
  same_name (task ∷ tasks) (row ∷ table) h zero = h.0.name
  same_name (task ∷ tasks) (row ∷ table) h (suc u) = same_name tasks table h.1 u
  same_name [] (row ∷ table) h u = absurd h
  same_name (task ∷ tasks) [] h u = absurd h

  -- ---- the start

  abbrev work_of : Option Task → TaskWork
  work_of task = items_work (task_items task)

  abbrev state_of : Option rows.Task → TaskState
  state_of row = let n = body_of row in record { frame = body_frame i n (called i n); callers = []; raising = None }

  task_stands : (note : Note) (k : Kernel) (t : ℕ) (task : Task) (row : rows.Task) → IsLinkedTask program i g numbers task row
      → CodeStands i program g numbers note k t (work_of (Some task)) (state_of (Some row))
  task_stands note k t task row h =
      subst (λ s. CodeStands i program g numbers note k t (work_of (Some task)) (record { frame = body_frame i row.subprogram s; callers = []; raising = None }))
      (sym h.there)
      (Going (duty_items task.duty) refl (record {
        around = h.around;
        follows = h.begins note;
        rests = h.rests;
        object = ap (λ o. object_of (kind_of o)) h.there ∙ h.object;
        stack = refl;
        going = refl;
        depth = duty_ends task.duty;
      }))

  pub tasks_stand : (note : Note) (k : Kernel) (t : ℕ) (tasks : List Task) (table : List rows.Task) → Linked tasks table → (u : ℕ) → u < length table
      → CodeStands i program g numbers note k t (work_of (slice_get tasks u)) (state_of (slice_get table u))
  tasks_stand note k t [] [] h u there = absurd (omega (arith, there))
  tasks_stand note k t (task ∷ tasks) (row ∷ table) h zero there = task_stands note k t task row h.0
  tasks_stand note k t (task ∷ tasks) (row ∷ table) h (suc u) there = tasks_stand note k t tasks table h.1 u (omega (arith, there))
  tasks_stand note k t [] (row ∷ table) h u there = absurd h
  tasks_stand note k t (task ∷ tasks) [] h u there = absurd h
