-- What the work over files leaves.
use Rattle.std.proofs.Common.{◌≡◌, ◌<◌, ℕ, ℤ, arith, List, length, Option, Bool, true, false, cond, inl, inr, refl, sym, ap, subst, Ok, Err}
use Rattle.std.specs.Io.KnownBytes.{Appends}
use Rattle.std.specs.Prelude.{◌⊎◌, IfOk, OnOk, Result, nat_eq}
use denote.Enum.Declared.{tag_of}
use Rattle.compiler.specs.stmt_code.specs.declared.tables.PlaceRow.{PlaceRow}
use Rattle.base.specs.declared.faults.TheConstants.{MEMORY_REFUSED}
use Rattle.base.specs.declared.schedule.ScheduleLine.{ScheduleLine}
use Rattle.image.specs.Code.{code}
use Rattle.image.specs.Sections.{Sections}
use Rattle.lexer.specs.declared.fault.Fault.{Fault}
use Rattle.machine.specs.Bounds.{IsBound}
use Rattle.machine.specs.Stands.{EndsBy}
use Rattle.machine.specs.declared.bound.Bound.{Bound}
use Rattle.machine.specs.declared.bound.Cut.{Cut}
use Rattle.machine.specs.declared.fault.RunFault.{RunFault}
use Rattle.machine.specs.declared.reports.Outcome.{Outcome}
use Rattle.machine.specs.declared.reports.Outcome.TheVariants as outcomes
use Rattle.file_limits.specs.declared.TheConstants.{IMAGE_BYTES, SCHEDULE_BYTES, SOURCE_BYTES}
use Rattle.clock.specs.Schedules.{RefusesSchedule}
use Rattle.image_format.specs.Bytes.{bytes_of}
use Rattle.image_loading.specs.Loaded.{IsLoaded}
use Rattle.clock.specs.declared.schedule.ScheduleFault.{ScheduleFault}
use Rattle.command_line.specs.Words.{AnswersWords, Command, Nothing, command_of}
use Rattle.command_line.specs.declared.Request.{Request}
use Rattle.command_line.specs.declared.WordsError.{WordsError}
use Rattle.command_line.specs.declared.WordsError.TheVariants.{Usage}
use Rattle.adarun.specs.Accepted.{RefusesText}
use Rattle.adarun.specs.Headline.{Runs}
use Rattle.adarun.specs.Stopping.{RefusesRunning}
use Rattle.adarun.specs.Driving.{HasLoaded, HasRun, HasRunImage, HasRunUntil, HasTraced, IsViewed, KeepsSink, LeavesCompile, LeavesGo, LeavesRun, LeavesTrace, LeavesUntil, named_text, number_of, status_of, text_of}
use Rattle.adarun.specs.Origins.{known_in}
use Rattle.adarun.specs.Reading.{Contents, IsBeginningRead}
use Rattle.adarun.specs.Timed.{WritesItsMeaningUntil}
use Rattle.waveforms.specs.Scopes.{Scopes}
use Rattle.adarun.specs.declared.compilation.Named.{Named}
use Rattle.adarun.specs.declared.going.GoFault.{GoFault}
use Rattle.adarun.specs.declared.going.GoFault.TheVariants as faults
use Rattle.adarun.specs.contracts.program.Status as status_type
use Rattle.adarun.specs.declared.program.Status.{Status}
use Rattle.command_line.specs.declared.View.{View}
use Rattle.adarun.specs.declared.program.Status.TheVariants as statuses
use Rattle.adarun.specs.declared.program.Status.TheVariants.{Failed, SourceRefused, ScheduleRefused, NoMemory}
use Rattle.adarun.proofs.Reading.{begun, image_whole, schedule_whole, source_whole}
use Rattle.adarun.proofs.Running.{meant}

module _ (contents : Contents) (source : List ℕ) (known : Option (List ℕ)) (limit : ℕ) (old new : Option (List ℕ)) where
  has_run : (outcome : Outcome) → HasRun contents source known limit (status_of outcome) old new → LeavesGo contents source known limit (status_of outcome) old new
  has_run (outcomes.Ended time) h = h
  has_run (outcomes.Unhandled exception task time) h = h
  has_run (outcomes.WaitsForever time) h = h
  has_run (outcomes.StepLimit time) h = h
  has_run (outcomes.ImageFault time) h = h

  pub run_leaves : (status : Status) (outcome : Outcome) (text lent given input : List ℕ)
      → status ≡ status_of outcome → IsBeginningRead (contents source) SOURCE_BYTES text → lent ≡ text → IsBeginningRead known SCHEDULE_BYTES given → input ≡ given → Runs lent input limit outcome old new
      → LeavesGo contents source known limit status old new
  run_leaves status outcome text lent given input e read same read_too same_too runs =
      subst (λ s. LeavesGo contents source known limit s old new) (sym e)
      (has_run outcome (record {
        text = lent;
        source_read = source_whole (contents source) text lent same runs.tree read runs.accepted.is_tree;
        input = input;
        input_read = schedule_whole known given input same_too runs.schedule read_too runs.is_schedule;
        outcome = outcome;
        status_is = refl;
        meaning = meant lent input limit outcome old new runs;
        runs = runs;
      }))

  refusal_leaves : (b : Bool) (fault : Fault) (text lent : List ℕ)
      → nat_eq fault.number MEMORY_REFUSED ≡ b → IsBeginningRead (contents source) SOURCE_BYTES text → lent ≡ text → RefusesText lent fault → new ≡ old
      → LeavesGo contents source known limit (cond b NoMemory SourceRefused) old new
  refusal_leaves true fault text lent e read same refused unwritten = unwritten
  refusal_leaves false fault text lent e read same refused unwritten = record {
    text = lent;
    source_read = begun (contents source) text lent same SOURCE_BYTES read;
    fault = fault;
    refused = refused;
    not_memory = λ h. let is = ap (λ n. nat_eq n MEMORY_REFUSED) h in absurd cc;
    unwritten = unwritten;
  }

  pub refused_leaves : (status : Status) (fault : Fault) (text lent : List ℕ)
      → status ≡ cond (nat_eq fault.number MEMORY_REFUSED) NoMemory SourceRefused → IsBeginningRead (contents source) SOURCE_BYTES text → lent ≡ text → RefusesText lent fault → new ≡ old
      → LeavesGo contents source known limit status old new
  refused_leaves status fault text lent e read same refused unwritten =
      subst (λ s. LeavesGo contents source known limit s old new) (sym e) (refusal_leaves (nat_eq fault.number MEMORY_REFUSED) fault text lent refl read same refused unwritten)

  unscheduled : (b : Bool) (x : GoFault) (fault : ScheduleFault) (text lent given input : List ℕ)
      → nat_eq fault.number MEMORY_REFUSED ≡ b → IsBeginningRead (contents source) SOURCE_BYTES text → lent ≡ text → IsBeginningRead known SCHEDULE_BYTES given → input ≡ given → x ≡ faults.Schedule fault → RefusesRunning lent input x → new ≡ old
      → LeavesGo contents source known limit (cond b NoMemory ScheduleRefused) old new
  unscheduled true x fault text lent given input e read same read_too same_too is refused unwritten = unwritten
  unscheduled false x fault text lent given input e read same read_too same_too is refused unwritten = record {
    text = lent;
    source_read =
        (let compiles = (subst (RefusesRunning lent input) is refused).0.compiles in
        source_whole (contents source) text lent same compiles.tree read compiles.accepted.is_tree);
    input = input;
    input_read = begun known given input same_too SCHEDULE_BYTES read_too;
    compiles = (subst (RefusesRunning lent input) is refused).0;
    fault = fault;
    refused = (subst (RefusesRunning lent input) is refused).1;
    not_memory = λ h. let is = ap (λ n. nat_eq n MEMORY_REFUSED) h in absurd cc;
    unwritten = unwritten;
  }

  pub schedule_leaves : (status : Status) (x : GoFault) (fault : ScheduleFault) (text lent given input : List ℕ)
      → status ≡ cond (nat_eq fault.number MEMORY_REFUSED) NoMemory ScheduleRefused → IsBeginningRead (contents source) SOURCE_BYTES text → lent ≡ text → IsBeginningRead known SCHEDULE_BYTES given → input ≡ given → x ≡ faults.Schedule fault → RefusesRunning lent input x → new ≡ old
      → LeavesGo contents source known limit status old new
  schedule_leaves status x fault text lent given input e read same read_too same_too is refused unwritten =
      subst (λ s. LeavesGo contents source known limit s old new) (sym e)
      (unscheduled (nat_eq fault.number MEMORY_REFUSED) x fault text lent given input refl read same read_too same_too is refused unwritten)

module _ (contents : Contents) (name schedule : List ℕ) (limit : ℕ) (old new : Option (List ℕ)) where
  has_run_image : (outcome : Outcome) → HasRunImage contents name schedule limit (status_of outcome) old new → LeavesRun contents name schedule limit (status_of outcome) old new
  has_run_image (outcomes.Ended time) h = h
  has_run_image (outcomes.Unhandled exception task time) h = h
  has_run_image (outcomes.WaitsForever time) h = h
  has_run_image (outcomes.StepLimit time) h = h
  has_run_image (outcomes.ImageFault time) h = inr h

  pub image_run_leaves : (status : Status) (outcome : Outcome) → status ≡ status_of outcome → HasRunImage contents name schedule limit (status_of outcome) old new
      → LeavesRun contents name schedule limit status old new
  image_run_leaves status outcome e h = subst (λ s. LeavesRun contents name schedule limit s old new) (sym e) (has_run_image outcome h)

  unscheduled_image : (b : Bool) (fault : ScheduleFault) (image : Sections) (given input : List ℕ)
      → nat_eq fault.number MEMORY_REFUSED ≡ b → HasLoaded contents name image → IsBeginningRead (contents schedule) SCHEDULE_BYTES given → input ≡ given → RefusesSchedule input fault → new ≡ old
      → LeavesRun contents name schedule limit (cond b NoMemory ScheduleRefused) old new
  unscheduled_image true fault image given input e loaded read same refused unwritten = unwritten
  unscheduled_image false fault image given input e loaded read same refused unwritten = record {
    image = image;
    loaded = loaded;
    input = input;
    read = begun (contents schedule) given input same SCHEDULE_BYTES read;
    fault = fault;
    refused = refused;
    not_memory = λ h. let is = ap (λ n. nat_eq n MEMORY_REFUSED) h in absurd cc;
    unwritten = unwritten;
  }

  pub image_schedule_leaves : (status : Status) (fault : ScheduleFault) (image : Sections) (given input : List ℕ)
      → status ≡ cond (nat_eq fault.number MEMORY_REFUSED) NoMemory ScheduleRefused → HasLoaded contents name image → IsBeginningRead (contents schedule) SCHEDULE_BYTES given → input ≡ given
      → RefusesSchedule input fault → new ≡ old → LeavesRun contents name schedule limit status old new
  image_schedule_leaves status fault image given input e loaded read same refused unwritten =
      subst (λ s. LeavesRun contents name schedule limit s old new) (sym e)
      (unscheduled_image (nat_eq fault.number MEMORY_REFUSED) fault image given input refl loaded read same refused unwritten)

-- ---- `compile`: a source that is refused, and memory that is, leave each file as it was
module _ (contents : Contents) (source name : List ℕ) (written : Option (List ℕ)) where
  uncompiled : (b : Bool) (fault : Fault) (text : List ℕ) → nat_eq fault.number MEMORY_REFUSED ≡ b → IsBeginningRead (contents source) SOURCE_BYTES text
      → RefusesText text fault → LeavesCompile contents contents source name (cond b NoMemory SourceRefused) written written
  uncompiled true fault text e read refused = (refl, inl (λ other. refl))
  uncompiled false fault text e read refused = (
    λ other. refl,
    record {
      text = text;
      source_read = read;
      fault = fault;
      refused = refused;
      not_memory = λ h. let is = ap (λ n. nat_eq n MEMORY_REFUSED) h in absurd cc;
      unwritten = refl;
    },
  )

  pub refused_compile : (status : Status) (fault : Fault) (text : List ℕ) → status ≡ cond (nat_eq fault.number MEMORY_REFUSED) NoMemory SourceRefused
      → IsBeginningRead (contents source) SOURCE_BYTES text → RefusesText text fault → LeavesCompile contents contents source name status written written
  refused_compile status fault text e read refused =
      subst (λ s. LeavesCompile contents contents source name s written written) (sym e) (uncompiled (nat_eq fault.number MEMORY_REFUSED) fault text refl read refused)

  pub unmade_compile : (status : Status) → status ≡ NoMemory → LeavesCompile contents contents source name status written written
  unmade_compile status e = subst (λ s. LeavesCompile contents contents source name s written written) (sym e) (refl, inl (λ other. refl))

-- what was loaded of a beginning of a file is the image of the file
pub image_loaded : (contents : Contents) (name : List ℕ) (image : Sections) (text lent : List ℕ) → lent ≡ text → IsBeginningRead (contents name) IMAGE_BYTES text → bytes_of image ≡ lent
    → length (bytes_of image) < IMAGE_BYTES → IsLoaded lent image → HasLoaded contents name image
image_loaded contents name image text lent same read is short loaded =
    record { bytes = lent; read = image_whole (contents name) text lent same image read is short; loaded = loaded }

-- the status of a sink's failure
pub failed_keeps : (status : Status) (Same : Type 0) (before after : ℕ) → status ≡ Failed → before < after → KeepsSink status Same before after
failed_keeps status Same before after is less = subst (λ s. KeepsSink s Same before after) (sym is) (λ e. cc, (λ e. cc, (λ e. cc, (λ e. inr less, λ not. absurd (not refl)))))

-- ---- what the words ask for, by the request that was read

pub asked_as : (command : Command) (read request : Request) → read ≡ request → AnswersWords command (Ok read) → command_of request ≡ command
asked_as command read request is answers = subst (λ r. command_of r ≡ command) is answers

pub asked_nothing : (command : Command) (error : WordsError) → error ≡ Usage → AnswersWords command (Err error) → Nothing ≡ command
asked_nothing command error is answers = sym (subst (λ e. AnswersWords command (Err e)) is answers)

-- ---- `trace`: what is told of equal names and texts is the same

pub told_alike : (view : View) (W : List ℕ → Type 0) (image : Sections) (places : List PlaceRow) (lines : List ScheduleLine) (bound : Bound)
    → (lent names own bodies : List (List ℕ)) (given scopes : Scopes) (shown text : List ℕ) → lent ≡ names → own ≡ bodies → given ≡ scopes → shown ≡ text
    → W (text_of view image lent given (known_in shown image places own) lines bound)
    → W (text_of view image names scopes (known_in text image places bodies) lines bound)
told_alike view W image places lines bound lent names own bodies given scopes shown text same_names same_bodies same_scopes same_text told =
    subst (λ n. W (text_of view image n scopes (known_in text image places bodies) lines bound)) same_names
    (subst (λ o. W (text_of view image lent scopes (known_in text image places o) lines bound)) same_bodies
    (subst (λ s. W (text_of view image lent s (known_in text image places own) lines bound)) same_scopes
    (subst (λ t. W (text_of view image lent given (known_in t image places own) lines bound)) same_text told)))

-- a view whose text was written, and whose run has an outcome
module _ (view : View) (text : List ℕ) (named : Named) (lines : List ScheduleLine) (until : Option ℤ) (limit : ℕ) (old new : Option (List ℕ)) (bound : Bound)
    (bounded : IsBound named.image lines until limit bound) where
  pub viewed : (r : Result Outcome RunFault) → OnOk r (Appends old new (named_text view text named lines bound))
      → IfOk r (λ outcome. EndsBy outcome (code named.image lines bound.steps)) → IfOk r (IsViewed view text named lines until limit old new)
  viewed (Ok outcome) written ends = record { bound = bound; bounded = bounded; written = written; ends = ends }
  viewed (Err fault) written ends = tt

-- a schedule that is refused leaves what it leaves to `go`

module _ (view : View) (contents : Contents) (source schedule : List ℕ) (until : Option ℤ) (limit : ℕ) (old new : Option (List ℕ)) where
  pub unscheduled_trace : (b : Bool) (status : Status) → status ≡ cond b NoMemory ScheduleRefused → LeavesGo contents source (contents schedule) limit status old new → LeavesTrace view contents source schedule until limit status old new
  unscheduled_trace true status e h = subst (λ s. LeavesTrace view contents source schedule until limit s old new) (sym e) (subst (λ s. LeavesGo contents source (contents schedule) limit s old new) e h)
  unscheduled_trace false status e h = subst (λ s. LeavesTrace view contents source schedule until limit s old new) (sym e) (subst (λ s. LeavesGo contents source (contents schedule) limit s old new) e h)

  has_traced : (outcome : Outcome) → HasTraced view contents source schedule until limit (status_of outcome) old new → LeavesTrace view contents source schedule until limit (status_of outcome) old new
  has_traced (outcomes.Ended time) h = h
  has_traced (outcomes.Unhandled exception task time) h = h
  has_traced (outcomes.WaitsForever time) h = h
  has_traced (outcomes.StepLimit time) h = h
  has_traced (outcomes.ImageFault time) h = h

  pub trace_leaves : (status : Status) (outcome : Outcome) → status ≡ status_of outcome → HasTraced view contents source schedule until limit (status_of outcome) old new → LeavesTrace view contents source schedule until limit status old new
  trace_leaves status outcome e h = subst (λ s. LeavesTrace view contents source schedule until limit s old new) (sym e) (has_traced outcome h)

-- ---- `simulate` up to a time: a text or a schedule that is refused leaves what it leaves to `go`

module _ (contents : Contents) (source : List ℕ) (known : Option (List ℕ)) (until : ℤ) (limit : ℕ) (old new : Option (List ℕ)) where
  pub refused_until : (b : Bool) (status : Status) → status ≡ cond b NoMemory SourceRefused → LeavesGo contents source known limit status old new → LeavesUntil contents source known until limit status old new
  refused_until true status e h = subst (λ s. LeavesUntil contents source known until limit s old new) (sym e) (subst (λ s. LeavesGo contents source known limit s old new) e h)
  refused_until false status e h = subst (λ s. LeavesUntil contents source known until limit s old new) (sym e) (subst (λ s. LeavesGo contents source known limit s old new) e h)

  pub unscheduled_until : (b : Bool) (status : Status) → status ≡ cond b NoMemory ScheduleRefused → LeavesGo contents source known limit status old new → LeavesUntil contents source known until limit status old new
  unscheduled_until true status e h = subst (λ s. LeavesUntil contents source known until limit s old new) (sym e) (subst (λ s. LeavesGo contents source known limit s old new) e h)
  unscheduled_until false status e h = subst (λ s. LeavesUntil contents source known until limit s old new) (sym e) (subst (λ s. LeavesGo contents source known limit s old new) e h)

  has_run_until : (outcome : Outcome) → HasRunUntil contents source known until limit (status_of outcome) old new → LeavesUntil contents source known until limit (status_of outcome) old new
  has_run_until (outcomes.Ended time) h = h
  has_run_until (outcomes.Unhandled exception task time) h = h
  has_run_until (outcomes.WaitsForever time) h = h
  has_run_until (outcomes.StepLimit time) h = h
  has_run_until (outcomes.ImageFault time) h = h

  pub until_leaves : (status : Status) (cut : Cut) (outcome : Outcome) (text lent given input : List ℕ)
      → status ≡ status_of outcome → IsBeginningRead (contents source) SOURCE_BYTES text → lent ≡ text → IsBeginningRead known SCHEDULE_BYTES given → input ≡ given
      → WritesItsMeaningUntil lent input until limit cut outcome old new → LeavesUntil contents source known until limit status old new
  until_leaves status cut outcome text lent given input e read same read_too same_too means =
      subst (λ s. LeavesUntil contents source known until limit s old new) (sym e)
      (has_run_until outcome (record {
        text = lent;
        source_read = source_whole (contents source) text lent same means.tree read means.accepted.is_tree;
        input = input;
        input_read = schedule_whole known given input same_too means.schedule read_too means.is_schedule;
        cut = cut;
        outcome = outcome;
        status_is = refl;
        meaning = means;
      }))

-- the tag of a status is its number
pub numbered_as : (status : Status) → tag_of status_type.the_type status ≡ number_of status
numbered_as statuses.Done = refl
numbered_as statuses.Failed = refl
numbered_as statuses.SourceRefused = refl
numbered_as statuses.Unhandled = refl
numbered_as statuses.WaitsForever = refl
numbered_as statuses.StepLimit = refl
numbered_as statuses.ImageFault = refl
numbered_as statuses.ScheduleRefused = refl
numbered_as statuses.NoMemory = refl
numbered_as statuses.LineFound = refl

-- where the status has the number 1, the sink is as it was, or a write failed
pub failed : (status : Status) (Same : Type 0) (before after : ℕ) → KeepsSink status Same before after → tag_of status_type.the_type status ≡ 1
    → Same ⊎ (before < after)
failed statuses.Failed Same before after h e = h.1.1.1.0 refl
failed statuses.Done Same before after h e = absurd (omega (arith, e))
failed statuses.SourceRefused Same before after h e = absurd (omega (arith, e))
failed statuses.Unhandled Same before after h e = absurd (omega (arith, e))
failed statuses.WaitsForever Same before after h e = absurd (omega (arith, e))
failed statuses.StepLimit Same before after h e = absurd (omega (arith, e))
failed statuses.ImageFault Same before after h e = absurd (omega (arith, e))
failed statuses.ScheduleRefused Same before after h e = absurd (omega (arith, e))
failed statuses.NoMemory Same before after h e = absurd (omega (arith, e))
failed statuses.LineFound Same before after h e = absurd (omega (arith, e))
