-- The rows of a program's tasks in the image's table (RM 9.1, 10.2): in the order of their declarations, main behind all others.
use Rattle.std.specs.Prelude.{◌≡◌, ℕ, List, [], ◌∷◌, ◌++◌, is_some, slice_get, None, Some, true, ⊤}
use Rattle.ada_tree.specs.StatementTree.{TaskTree}
use Rattle.ada_tree.specs.ProgramTree.{BodyTree, ItemTree, OfTask, ProgramTree}
use Rattle.image.specs.declared.tasks.Task as rows
use Rattle.types.specs.Scopes.{number_of}
use Rattle.expr_soundness.specs.meaning.specs.Programs.{Duty, OfBody, OfMain, Task, body_among, package_bodies, program_of, tasks_among}
use Rattle.program_soundness.specs.Fronts.{declared_in}
use Rattle.package_code.specs.Bodies.{bodies_among, number_in}

-- ---- what is known of declared tasks

-- the task has one body, and its name is visible behind the package and has the number of that body
pub record IsKnownTask (t : ProgramTree) (d : TaskTree) : Type 0 where
  pub body : BodyTree
  pub alone : body_among d.name (package_bodies t.package_) ≡ OfBody body ∷ []
  pub numbered : is_some (number_in t None d.name.name) ≡ true
  pub visible : is_some (number_of (program_of t).scope d.name.name) ≡ true

-- that is so of each task among these declarations
abbrev pub AreKnownTasks : ProgramTree → List ItemTree → Type 0
AreKnownTasks t items = (n : ℕ) (d : TaskTree) → slice_get items n ≡ Some (OfTask d) → IsKnownTask t d

-- ---- rows

-- The subprogram with this number is that of the task: that of its body, or, of main, the one behind those of all bodies.
abbrev pub HasDuty : ProgramTree → Task → (number : ℕ) → Duty → Type 0
HasDuty t x number (OfBody b) = number_in t None x.name ≡ Some number
HasDuty t x number (OfMain statements) = number ≡ bodies_among (declared_in t.package_)

-- the row of the image's table is that of the task
pub record HasTask (t : ProgramTree) (x : Task) (row : rows.Task) : Type 0 where
  pub name : row.name ≡ x.name
  pub priority : row.priority ≡ x.priority
  pub duty : HasDuty t x row.subprogram x.duty

-- as many rows as tasks, in the same order
abbrev pub HaveTasks : ProgramTree → List Task → List rows.Task → Type 0
HaveTasks t [] [] = ⊤
HaveTasks t (x ∷ xs) (row ∷ rest) = HasTask t x row × HaveTasks t xs rest
HaveTasks t xs rest = ⊥

-- the rows are those of the tasks among these declarations
abbrev pub HaveDeclared : ProgramTree → List ItemTree → List rows.Task → Type 0
HaveDeclared t items table = HaveTasks t (tasks_among (program_of t).scope (package_bodies t.package_) items) table

-- the rows of the tasks among these declarations were added
pub record AddsTasks (t : ProgramTree) (old : List rows.Task) (items : List ItemTree) (new : List rows.Task) : Type 0 where
  pub added : List rows.Task
  pub appended : new ≡ old ++ added
  pub have : HaveDeclared t items added
