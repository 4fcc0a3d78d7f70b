-- What every world of a well-formed image keeps, so that each step keeps it, and what steps say of lines; nobody has to believe this.
use Rattle.std.specs.Prelude.{◌≡◌, ℕ, ◌<◌, ◌≤◌, List, length, Some, false}
use Rattle.base.specs.declared.schedule.ScheduleLine.{ScheduleLine}
use Rattle.kernel.specs.Counting.{Unseen}
use Rattle.kernel.specs.Effects.{Effect, Opens, Queues, Views, after}
use Rattle.kernel.specs.Invariant.{Kept, Passed}
use Rattle.kernel.specs.State.{Kernel, Line}
use Rattle.kernel.specs.Worlds.{Solo, Tasks, among, is_handler_over, put_back, run, solo_of, step}
use Rattle.image.specs.Code.{CodeWorld, partition_of, start}
use Rattle.image.specs.Frames.{Words, TaskState}
use Rattle.image.specs.Rules.{IsWellFormed}
use Rattle.image.specs.Sections.{Sections}
use Rattle.image.specs.Steps.{act, behaviour, is_open}
use Rattle.image_laws.specs.Linked.{AreHandled, IsLinked, OwesFor}
use Rattle.image_laws.specs.Shape.{IsImageTask, IsSound, is_own}
use Rattle.image_laws.specs.Within.{Anytime, Bounded}

-- the kernel's invariant, the link of frames and open actions, and that whoever the kernel speaks of is a task or a handler of the image
pub record IsWhole (i : Sections) (w : CodeWorld) : Type 0 where
  pub kept : Kept (is_open i w.rest.memory) w.kernel
  pub linked : IsLinked i w.kernel.actions w.kernel.queued w.rest.tasks
  pub handled : AreHandled i w.kernel.pending
  pub bounded : Bounded (IsImageTask i) Anytime w.kernel
  pub partition : w.kernel.partition ≡ partition_of i

abbrev pub StartsWhole : Type 0
StartsWhole = (i : Sections) → IsWellFormed i → (schedule : List ScheduleLine) → IsWhole i (start i schedule)

abbrev pub StepsWhole : Type 0
StepsWhole = (i : Sections) → IsWellFormed i → (schedule : List ScheduleLine) (w : CodeWorld) → IsWhole i w → IsWhole i (step (among (behaviour i schedule)) w)

-- steps that no other task notices are steps of the world, and keep it whole
abbrev pub UnseenWhole : Type 0
UnseenWhole =
    (i : Sections) → IsWellFormed i → (schedule : List ScheduleLine) (t n : ℕ) (k l : Kernel) (d : Tasks Words TaskState) (s : Solo Words TaskState) →
    Unseen (behaviour i schedule) t n k (solo_of t d) l s → IsWhole i (record { kernel = k; rest = d }) →
    IsWhole i (record { kernel = l; rest = put_back t d s })
    × (run (among (behaviour i schedule)) n (record { kernel = k; rest = d }) ≡ record { kernel = l; rest = put_back t d s })

-- the running task or handler is one of the image, and its frames have their shape
abbrev pub RunnerSound : Type 0
RunnerSound = (i : Sections) → IsWellFormed i → (w : CodeWorld) (t : ℕ) → IsWhole i w → w.kernel.running ≡ Some t → IsImageTask i t
    × IsSound i (is_own i t) (w.rest.tasks t)

-- what the step of the running task owes to other tasks
abbrev pub RunnerOwes : Type 0
RunnerOwes =
    (i : Sections) → IsWellFormed i → (schedule : List ScheduleLine) (w : CodeWorld) (t : ℕ) → IsWhole i w → w.kernel.running ≡ Some t →
    (let r = act i schedule w.kernel t (solo_of t w.rest) in OwesFor i (is_own i t) (w.kernel.actions t) r.effect r.given r.solo.task)

-- the refusals that the effect of its step has passed
abbrev pub RunnerPasses : Type 0
RunnerPasses =
    (i : Sections) → IsWellFormed i → (schedule : List ScheduleLine) (w : CodeWorld) (t : ℕ) → IsWhole i w → w.kernel.running ≡ Some t →
    (let r = act i schedule w.kernel t (solo_of t w.rest) in Passed (is_open i r.solo.memory) w.kernel t r.effect)

-- a handler runs on where its step is not its end
abbrev pub RunnerGoesOn : Type 0
RunnerGoesOn =
    (i : Sections) → IsWellFormed i → (schedule : List ScheduleLine) (w : CodeWorld) (t : ℕ) → IsWhole i w → w.kernel.running ≡ Some t → length i.tasks ≤ t →
    (let e = (act i schedule w.kernel t (solo_of t w.rest)).effect in is_handler_over w.kernel t e ≡ false → (after t e w.kernel).running ≡ Some t)

-- the object that an effect speaks of is one of so many
abbrev pub IsNamed : ℕ → Effect → Type 0
IsNamed n (Opens o) = o < n
IsNamed n (Views o) = o < n
IsNamed n (Queues o) = o < n
IsNamed n _ = Unit {0}

-- a step asks the kernel for objects of the image alone
abbrev pub EffectsNamed : Type 0
EffectsNamed = (i : Sections) → IsWellFormed i → (schedule : List ScheduleLine) (k : Kernel) (t : ℕ) (s : Solo Words TaskState)
    → IsNamed (length i.objects) (act i schedule k t s).effect

-- a step does not depend on the lines that were written
abbrev pub LinesUnread : Type 0
LinesUnread =
    (i : Sections) (schedule : List ScheduleLine) (k : Kernel) (lines : List Line) (t : ℕ) (s : Solo Words TaskState)
    → act i schedule (record k { lines = lines }) t s ≡ act i schedule k t s
