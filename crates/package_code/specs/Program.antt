-- What the sections of an image have that was put together from a program.
use Rattle.std.specs.Prelude.{◌≡◌, [], ◌∷◌, ◌++◌, ◌+◌, ◌<◌, length, sum_by, Bool, ◌&&◌, true, nat_le}
use Rattle.std.specs.List.{list_all}
use Rattle.base.specs.Names.{is_label, is_name}
use Rattle.base.specs.declared.limits.TheConstants.{EXCEPTIONS, LABELS, OBJECTS, ROWS, SUBPROGRAMS, TASKS, WORDS}
use Rattle.ada_tree.specs.ProgramTree.{ProgramTree}
use Rattle.image.specs.Sections.{Sections}
use Rattle.image.specs.declared.subprograms.Kind.TheVariants as kinds
use Rattle.expr_soundness.specs.meaning.specs.Programs.{package_items, program_of}
use Rattle.program_soundness.specs.Fronts.{declared_in}
use Rattle.expr_code.specs.Code.{here}
use Rattle.expr_code.specs.declared.refusal.ImageLimit.{ImageLimit}
use Rattle.expr_code.specs.declared.refusal.ImageLimit.TheVariants as limits
use Rattle.stmt_code.specs.Subprograms.{AddsMain, KeepsRules}
use Rattle.stmt_code.specs.declared.draft.Draft.{Draft}
use Rattle.stmt_code.specs.declared.subprogram.SubprogramWords.{SubprogramWords}
use Rattle.package_code.specs.Directory.{IsDirectory}
use Rattle.package_code.specs.Globals.{AreGlobals}
use Rattle.package_code.specs.Handlers.{attachments_of}
use Rattle.package_code.specs.Objects.{HaveObjects, objects_have_words}
use Rattle.package_code.specs.Tasks.{HaveTasks}
use Rattle.package_code.specs.Walking.{IsWalked, row_of}
use Rattle.package_code.specs.declared.directory.Directory.{Directory}
use Rattle.package_code.specs.declared.globals.Globals.{Globals}
use Rattle.package_code.specs.declared.walk.Walk.{Walk}

-- The variables, the protected objects, the tasks, the bodies and main of the program have what they need there, main behind all others.
pub record HasProgram (t : ProgramTree) (i : Sections) : Type 0 where
  pub globals : Globals
  pub are : AreGlobals (program_of t).scope (package_items t.package_) globals
  pub directory : Directory
  pub slots : directory.slots ≡ globals.slots
  pub told : IsDirectory t directory
  pub walk : Walk
  pub walked : IsWalked t directory walk
  pub whole : walk.place ≡ length (declared_in t.package_)
  pub draft : Draft
  pub words : SubprogramWords
  pub main : AddsMain walk.visible walk.draft t.main.statements words draft
  pub keeps : KeepsRules true walk.visible walk.draft words draft
  pub exceptions : i.exceptions ≡ globals.exceptions.items
  pub labels : i.labels ≡ draft.labels
  pub plain_words : i.plain_words ≡ globals.words.items
  pub objects : HaveObjects t i.objects
  pub made : objects_have_words (program_of t).scope (package_items t.package_) ≡ true
  pub subprograms : i.subprograms ≡ walk.subprograms.items ++ row_of kinds.TaskBody words (here draft.code) ∷ []
  pub tasks : HaveTasks t (program_of t).tasks i.tasks
  pub rows : i.rows ≡ draft.rows.items
  pub attachments : i.attachments ≡ attachments_of t directory
  pub instructions : i.instructions ≡ draft.code.instructions.items

-- texts are names and labels, as those of a source text are
abbrev pub has_texts : Sections → Bool
has_texts i = list_all is_name i.exceptions && (list_all is_label i.labels && list_all (λ t. is_name t.name) i.tasks)

-- what a program has of its own is within the limits of images
abbrev pub is_within_limits : Sections → Bool
is_within_limits i =
    nat_le (length i.subprograms) SUBPROGRAMS
    && (nat_le (length i.tasks) TASKS && (nat_le (length i.exceptions) EXCEPTIONS
    && (nat_le (length i.labels) LABELS && (nat_le (length i.plain_words + sum_by (λ o. length o.words) i.objects) WORDS
    && (nat_le (length i.rows) ROWS && nat_le (length i.objects) OBJECTS)))))

-- it has more of something than an image: this limit is passed
abbrev pub PassesTable : Sections → ImageLimit → Type 0
PassesTable i limits.Subprograms = SUBPROGRAMS < length i.subprograms
PassesTable i limits.Tasks = TASKS < length i.tasks
PassesTable i limits.Exceptions = EXCEPTIONS < length i.exceptions
PassesTable i limits.Labels = LABELS < length i.labels
PassesTable i limits.Words = WORDS < length i.plain_words + sum_by (λ o. length o.words) i.objects
PassesTable i limits.Rows = ROWS < length i.rows
PassesTable i limits.Objects = OBJECTS < length i.objects
PassesTable i other = ⊥

pub record KeepsTables (i : Sections) : Type 0 where
  pub texts : has_texts i ≡ true
  pub limits : is_within_limits i ≡ true
