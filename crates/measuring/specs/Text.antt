-- The text of a run's measures, byte for byte (docs/FORMATS.md, "Measures").
use Rattle.std.specs.Prelude.{ℕ, zero, suc, ◌+◌, ◌-◌, List, [], ◌++◌, Option, Some, None, ◌&&◌, not, codes, decimal, length, nat_eq, nat_lt, slice_get, if◌then◌else◌}
use Rattle.std.specs.Fmt.{signed_decimal}
use Rattle.base.specs.declared.limits.TheConstants.{CHANNELS}
use Rattle.base.specs.declared.schedule.ScheduleLine.{ScheduleLine}
use Rattle.image.specs.Code.{code, partition_of}
use Rattle.image.specs.Sections.{Sections}
use Rattle.image.specs.Texts.{names_of}
use Rattle.machine.specs.Bounds.{cut_line}
use Rattle.machine.specs.declared.bound.Bound.{Bound}
use Rattle.tracing.specs.Traces.{named_object}
use Rattle.measuring.specs.Measures.{blocking, measures, object_measures, plus, usage_measures}
use Rattle.measuring.specs.Runs.{calls, instants, stories, usages}
use Rattle.measuring.specs.Stories.{ObjectCalls, Stories, Usages}
use Rattle.measuring.specs.declared.actor.ActorMeasures.{ActorMeasures}
use Rattle.measuring.specs.declared.instants.Instants.{Instants}
use Rattle.measuring.specs.declared.object.ObjectMeasures.{ObjectMeasures}
use Rattle.measuring.specs.declared.text.Form.{Form}
use Rattle.measuring.specs.declared.text.Form.TheVariants.{Table, Fields}
use Rattle.measuring.specs.declared.usage.UsageMeasures.{UsageMeasures}

abbrev pub spaces : ℕ → List ℕ
spaces zero = []
spaces (suc n) = spaces n ++ codes " "

-- Tables have columns of nine characters at the right of which the numbers are; fields are separated by tabs, and the first one says what the row is about.

abbrev pub cell : Form → List ℕ → List ℕ
cell Table text = spaces (9 - length text) ++ text ++ codes " "
cell Fields text = text ++ codes "\t"

abbrev pub kind : Form → List ℕ → List ℕ
kind Table word = []
kind Fields word = word ++ codes "\t"

abbrev pub heading : Form → List ℕ → List ℕ
heading Table text = text
heading Fields text = []

-- between two names
abbrev pub gap : Form → List ℕ
gap Table = codes " "
gap Fields = codes "\t"

abbrev pub number : Form → ℕ → List ℕ
number form n = cell form (decimal n)

-- a dash where there is none
abbrev pub least_text : Option ℕ → List ℕ
least_text None = codes "-"
least_text (Some n) = decimal n

-- the texts of the numbers below n, in their order
abbrev pub below : ℕ → (ℕ → List ℕ) → List ℕ
below zero f = []
below (suc n) f = below n f ++ f n

-- Tasks and handlers: they are numbered from 0, and after the tasks are the handlers of the channels from 1

abbrev pub actors_of : Sections → ℕ
actors_of i = length i.tasks + (CHANNELS + 1)

-- the row of a task, or of a handler that has run
abbrev pub shown : Sections → ℕ → ActorMeasures → List ℕ → List ℕ
shown i t m row = if not (nat_lt t (length i.tasks)) && nat_eq m.jobs 0 then [] else row

-- Work

abbrev pub jobs_text : Form → ActorMeasures → List ℕ
jobs_text form m =
    number form m.jobs ++ number form m.steps ++ cell form (least_text m.shortest_job) ++ number form m.longest_job ++ number form m.response

abbrev pub work_row : Form → (priority blocking : ℕ) → (name : List ℕ) → ActorMeasures → List ℕ
work_row form priority blocking name m =
    (kind form (codes "task") ++ number form priority) ++ jobs_text form m ++ (number form blocking ++ number form m.preempted) ++ (name ++ codes "\n")

-- by the longest action of each task and handler at each object
abbrev pub blocking_in : Sections → (ℕ → ℕ → UsageMeasures) → ℕ → ℕ
blocking_in i usage t = blocking (partition_of i) (actors_of i) (λ u o. (usage u o).longest_action) t

abbrev pub shown_work : Form → Sections → (ℕ → ActorMeasures) → (ℕ → ℕ → UsageMeasures) → ℕ → List ℕ
shown_work form i actor usage t = shown i t (actor t) (work_row form ((partition_of i).base t) (blocking_in i usage t) ((names_of i).task t) (actor t))

abbrev pub work_heading : List ℕ
work_heading = codes " priority      jobs     steps     least   longest  response  blocking preempted task\n"

abbrev pub work_text : Form → Sections → (ℕ → ActorMeasures) → (ℕ → ℕ → UsageMeasures) → List ℕ
work_text form i actor usage = heading form work_heading ++ below (actors_of i) (shown_work form i actor usage)

-- Waiting

abbrev pub times_text : Form → ActorMeasures → List ℕ
times_text form m = number form m.late ++ number form m.latest ++ cell form (least_text m.least_apart)

abbrev pub wait_row : Form → (name : List ℕ) → ActorMeasures → List ℕ
wait_row form name m =
    (kind form (codes "wait") ++ number form m.waits) ++ (number form m.longest_wait ++ number form m.total_wait) ++ times_text form m ++ (name ++ codes "\n")

abbrev pub shown_wait : Form → Sections → (ℕ → ActorMeasures) → ℕ → List ℕ
shown_wait form i actor t = shown i t (actor t) (wait_row form ((names_of i).task t) (actor t))

abbrev pub waits_heading : List ℕ
waits_heading = codes "\n   queued     worst     total      late     worst     apart task\n"

abbrev pub waits_text : Form → Sections → (ℕ → ActorMeasures) → List ℕ
waits_text form i actor = heading form waits_heading ++ below (actors_of i) (shown_wait form i actor)

-- Frames

-- how many count to their limit: those of a task with the one that runs; the last one of a handler never runs
abbrev pub frames_of : Sections → ℕ → ActorMeasures → ℕ
frames_of i t m = if nat_lt t (length i.tasks) then plus m.deepest 1 else m.deepest

abbrev pub frames_row : Form → (frames : ℕ) → (name : List ℕ) → ActorMeasures → List ℕ
frames_row form frames name m = (kind form (codes "frames") ++ number form frames) ++ number form m.widest ++ (name ++ codes "\n")

abbrev pub shown_frames : Form → Sections → (ℕ → ActorMeasures) → ℕ → List ℕ
shown_frames form i actor t = shown i t (actor t) (frames_row form (frames_of i t (actor t)) ((names_of i).task t) (actor t))

abbrev pub frames_heading : List ℕ
frames_heading = codes "\n   frames     words task\n"

abbrev pub frames_text : Form → Sections → (ℕ → ActorMeasures) → List ℕ
frames_text form i actor = heading form frames_heading ++ below (actors_of i) (shown_frames form i actor)

-- Objects

abbrev pub object_row : Form → (ceiling : ℕ) → (name : List ℕ) → ObjectMeasures → List ℕ
object_row form ceiling name m =
    (kind form (codes "object") ++ number form ceiling) ++ (number form m.calls ++ number form m.queued) ++ (name ++ codes "\n")

abbrev pub shown_object : Form → Sections → (names : List (List ℕ)) → (ℕ → ObjectMeasures) → ℕ → List ℕ
shown_object form i names object o = object_row form ((partition_of i).ceiling o) (named_object o (slice_get names o)) (object o)

abbrev pub objects_heading : List ℕ
objects_heading = codes "\n  ceiling     calls    queued object\n"

abbrev pub objects_text : Form → Sections → (names : List (List ℕ)) → (ℕ → ObjectMeasures) → List ℕ
objects_text form i names object = heading form objects_heading ++ below (length i.objects) (shown_object form i names object)

-- Tasks and handlers at objects

abbrev pub usage_row : Form → (task object : List ℕ) → UsageMeasures → List ℕ
usage_row form task object m =
    (kind form (codes "inside") ++ number form m.calls) ++ number form m.longest_action ++ (task ++ gap form) ++ (object ++ codes "\n")

-- the row of a task or handler and an object that it has called, or has been inside
abbrev pub shown_usage : Form → Sections → (names : List (List ℕ)) → (ℕ → ℕ → UsageMeasures) → ℕ → ℕ → List ℕ
shown_usage form i names usage t o =
    if nat_eq (usage t o).calls 0 && nat_eq (usage t o).longest_action 0 then []
    else usage_row form ((names_of i).task t) (named_object o (slice_get names o)) (usage t o)

abbrev pub usages_heading : List ℕ
usages_heading = codes "\n    calls   longest task object\n"

abbrev pub usages_text : Form → Sections → (names : List (List ℕ)) → (ℕ → ℕ → UsageMeasures) → List ℕ
usages_text form i names usage =
    heading form usages_heading ++ below (actors_of i) (λ t. below (length i.objects) (shown_usage form i names usage t))

-- Instants

abbrev pub instants_heading : List ℕ
instants_heading = codes "\n    steps at time\n"

abbrev pub instants_row : Form → Instants → List ℕ
instants_row form m = (kind form (codes "instant") ++ number form m.most) ++ (signed_decimal m.time ++ codes "\n")

abbrev pub instants_text : Form → Instants → List ℕ
instants_text form m = heading form instants_heading ++ instants_row form m

-- what is measured of a run in which this has happened to tasks, these were the calls of objects, which have these names, tasks have done this at objects, and
-- these were the instants
abbrev pub run_text : Form → Sections → (names : List (List ℕ)) → Stories → ObjectCalls → Usages → Instants → List ℕ
run_text form i names stories calls usages instants =
    work_text form i (λ t. measures (stories t)) (λ t o. usage_measures (usages t o))
    ++ waits_text form i (λ t. measures (stories t))
    ++ frames_text form i (λ t. measures (stories t))
    ++ objects_text form i names (λ o. object_measures (calls o))
    ++ usages_text form i names (λ t o. usage_measures (usages t o))
    ++ instants_text form instants

-- all that is written of a run within a bound: its measures, and its last line
abbrev pub measures_text : Form → Sections → (names : List (List ℕ)) → List ScheduleLine → Bound → List ℕ
measures_text form i names schedule bound =
    let k = (code i schedule bound.steps).kernel in
    run_text form i names (stories i schedule bound.steps) (calls i schedule bound.steps) (usages i schedule bound.steps) (instants i schedule bound.steps)
    ++ cut_line bound.cut (names_of i) k.outcome k.now
