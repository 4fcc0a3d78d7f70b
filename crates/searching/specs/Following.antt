-- What the search keeps of the worlds on its way, and what it says of the run that goes on from them; nobody has to believe this.
use Rattle.std.specs.Prelude.{◌≡◌, ◌≢◌, ◌⊎◌, ℕ, ◌+◌, ◌-◌, ◌<◌, ◌≤◌, ℤ, pos, ◌<ℤ◌, ◌≤ℤ◌, int_le, int_lt, List, [], ◌∷◌, ◌++◌, Option, Some, None, true, drop, get_or, IfSome, length, take}
use Rattle.base.specs.Schedule.{input}
use Rattle.base.specs.declared.limits.TheConstants.{CHANNELS}
use Rattle.base.specs.declared.schedule.ScheduleLine.{ScheduleLine}
use Rattle.choices.specs.Parts.{front_of, is_of_part}
use Rattle.choices.specs.Places.{AreWithin}
use Rattle.choices.specs.Slots.{Slot}
use Rattle.choices.specs.Stepping.{IsEarlierInFront}
use Rattle.choices.specs.declared.part.Part.{Part}
use Rattle.clock.specs.declared.delays.Sleeper.{Sleeper as Row}
use Rattle.execution.specs.Encoding.{contents_words, option_words}
use Rattle.execution.specs.Held.{HeldWorld, Leads, tasks_in, world_of, world_with}
use Rattle.execution.specs.Saving.{AreContentsOf, HeldContents}
use Rattle.image.specs.Code.{code}
use Rattle.image.specs.Sections.{Sections}
use Rattle.image_laws.specs.Whole.{IsWhole}
use Rattle.kernel.specs.State.{IsReady, Kernel, Line}
use Rattle.likeness.specs.Worlds.{IsEarly, IsLastBefore, NoneSooner, ReadsNothing}
use Rattle.tasking.specs.Held.{Held, kernel_of, place_at, sleepers_of}
use Rattle.tasking.specs.Orderly.{time_ahead}
use Rattle.tasking.specs.declared.reports.Outcome.{Outcome as End}
use Rattle.tasking.specs.declared.reports.Place.{Place as Stand}
use Rattle.searching.specs.Judging.{JudgedOutcome}
use Rattle.searching.specs.Meeting.{ArePartedAt, EndsBefore, HaveMet, IsAtEnd, IsSetAnew, StandsAfter, schedule_of}
use Rattle.searching.specs.Encoding.{ended_words, place_words, sleeper_words}
use Rattle.searching.specs.Searches.{AnswersRun, kernels}
use Rattle.searching.specs.Sights.{HasLine, IsWanted, Written}
use Rattle.searching.specs.declared.following.Followed.{Followed}
use Rattle.searching.specs.declared.following.Followed.TheVariants as followed
use Rattle.searching.specs.declared.one.Answer.TheVariants as answers
use Rattle.searching.specs.declared.sight.Wanted.{Wanted}

-- a world in which a run stands: its time, the handler that runs, the place of each task, the sleepers, and words and frames
pub record SeenWorld : Type 0 where
  pub time : ℤ
  pub handler : Option ℕ
  pub places : List Stand
  pub sleepers : List Row
  pub contents : HeldContents

-- each task is at its place, and none is ready
pub record StandThere (h : Held) (places : List Stand) : Type 0 where
  pub count : length places ≡ length h.objects.bases
  pub each : (u : ℕ) → u < length places → (place_at places u ≡ (kernel_of h).place u) × (place_at places u ≢ IsReady)

-- what is held is this world
pub record IsSeenIn (h : HeldWorld) (w : SeenWorld) : Type 0 where
  pub time : w.time ≡ (kernel_of h.tasking).now
  pub on : (kernel_of h.tasking).outcome ≡ None
  pub handler : w.handler ≡ h.tasking.handler
  pub places : StandThere h.tasking w.places
  pub sleepers : sleepers_of w.sleepers ≡ (kernel_of h.tasking).sleepers
  pub contents : AreContentsOf h w.contents
  pub whole : IsWhole h.image (world_of h)

-- how many rows of frames count: those of the tasks, and one more where a handler runs
abbrev pub rows_of : Option ℕ → ℕ → ℕ
rows_of None count = count
rows_of (Some a) count = count + 1

-- a world as one row of words: first its time, the handler, the places and the sleepers
abbrev pub standing_words : SeenWorld → List ℤ
standing_words w = w.time ∷ option_words w.handler ++ ended_words place_words w.places ++ ended_words sleeper_words w.sleepers

abbrev pub world_words : SeenWorld → List ℤ
world_words w = standing_words w ++ contents_words (rows_of w.handler (length w.places)) w.contents

-- the words are those of a world that is held
pub record IsEncoded (h : HeldWorld) (words : List ℤ) : Type 0 where
  pub world : SeenWorld
  pub seen : IsSeenIn h world
  pub are : words ≡ world_words world

-- tasks are at the same places
pub record ArePlacesAlike (stands others : List Stand) : Type 0 where
  pub count : length stands ≡ length others
  pub each : (u : ℕ) → u < length stands → place_at stands u ≡ place_at others u

pub record AreLikeWorlds (v w : SeenWorld) : Type 0 where
  pub time : v.time ≡ w.time
  pub handler : v.handler ≡ w.handler
  pub places : ArePlacesAlike v.places w.places
  pub sleepers : v.sleepers ≡ w.sleepers
  pub words : v.contents.words ≡ w.contents.words
  pub tasks : (let n = rows_of v.handler (length v.places) in tasks_in (take n v.contents.tasks) ≡ tasks_in (take n w.contents.tasks))

-- a copy of the tasks and protected objects that are held, without the interrupts that are pending
pub record IsPauseOf (h : HeldWorld) (pause : Held) : Type 0 where
  pub handler : pause.handler ≡ h.tasking.handler
  pub kernel : kernel_of pause ≡ record (kernel_of h.tasking) { pending = [] }

-- ---- where a run stands

-- since some number of steps the time has been this, and as many steps of the limit were taken as are missing
pub record Since (i : Sections) (schedule : List ScheduleLine) (limit n : ℕ) (now : ℤ) (left : ℕ) : Type 0 where
  pub first : ℕ
  pub at : first + (limit - left) ≡ n
  pub few : left ≤ limit
  pub same : (kernels i schedule first).now ≡ now

-- no line among these is wanted
abbrev pub NoneWanted : (until : ℤ) → Wanted → List Line → Type 0
NoneWanted until wanted lines = (line : Line) → HasLine lines line → IsWanted wanted (Written line) → line.time ≤ℤ until → ⊥

-- after n steps: what is held is the world of code, it is this time, and no line was written that is wanted
pub record Standing (i : Sections) (schedule : List ScheduleLine) (until : ℤ) (limit : ℕ) (wanted : Wanted) (h : HeldWorld) (now : ℤ) (left : ℕ) : Type 0 where
  pub n : ℕ
  pub image : h.image ≡ i
  pub schedule_is : h.schedule ≡ schedule
  pub stands : code i schedule n ≡ world_with (kernels i schedule n).lines h
  pub now_is : now ≡ (kernel_of h.tasking).now
  pub none : NoneWanted until wanted (kernels i schedule n).lines
  pub since : Since i schedule limit n now left

-- ---- what is kept

-- the last values of all channels before a time, but for those that one of these slots gives another at this time, whichever alternative is taken
pub record AreValues (slots : List Slot) (time : ℤ) (schedule : List ScheduleLine) (last : ℤ) (values : List ℤ) : Type 0 where
  pub count : length values ≡ CHANNELS
  pub each : (place : ℕ) (d : ℤ) → place < CHANNELS → IsSetAnew time (place + 1) slots ⊎ (get_or values place d ≡ input schedule (place + 1) last)

-- a choice, how many first slots are passed, the time of those after them, how many steps may be taken at this time, a world, and a copy of its tasks and
-- objects
pub record KeptCheckpoint : Type 0 where
  pub choice : List ℕ
  pub front : ℕ
  pub time : ℤ
  pub left : ℕ
  pub world : SeenWorld
  pub pause : Held

-- the run on the choice stands there, before the times of the slots after the front
pub record IsCheckpoint (i : Sections) (slots : List Slot) (until : ℤ) (limit : ℕ) (wanted : Wanted) (c : KeptCheckpoint) : Type 0 where
  pub held : HeldWorld
  pub stands : Standing i (schedule_of slots c.choice) until limit wanted held c.world.time c.left
  pub seen : IsSeenIn held c.world
  pub pause : IsPauseOf held c.pause
  pub within : AreWithin slots c.choice
  pub parted : ArePartedAt c.time c.front slots
  pub early : IsEarly c.time (world_of held).kernel
  pub none : NoneSooner c.time (world_of held)

abbrev pub AreCheckpoints : Sections → List Slot → (until : ℤ) → (limit : ℕ) → Wanted → List KeptCheckpoint → Type 0
AreCheckpoints i slots until limit wanted [] = Unit {0}
AreCheckpoints i slots until limit wanted (c ∷ cs) = IsCheckpoint i slots until limit wanted c × AreCheckpoints i slots until limit wanted cs

pub record KeptRow : Type 0 where
  pub front : ℕ
  pub time : ℤ
  pub choice : List ℕ
  pub words : List ℤ

-- the run on a choice of the part stands just before the time in a world, and the channels have values then that count from there on; the words are these
-- values and those of the world
pub record IsRow (i : Sections) (slots : List Slot) (part : Part) (r : KeptRow) : Type 0 where
  pub held : HeldWorld
  pub steps : ℕ
  pub within : AreWithin slots r.choice
  pub is_of : is_of_part part slots r.choice ≡ true
  pub stands : StandsAfter steps i (schedule_of slots r.choice) held
  pub none : NoneSooner r.time (world_of held)
  pub values : List ℤ
  pub encoded : List ℤ
  pub words : r.words ≡ values ++ encoded
  pub are_values : (last : ℤ) → IsLastBefore last r.time → AreValues (drop r.front slots) r.time (schedule_of slots r.choice) last values
  pub is_encoded : IsEncoded held encoded

abbrev pub AreKeptRows : Sections → List Slot → Part → List KeptRow → Type 0
AreKeptRows i slots part [] = Unit {0}
AreKeptRows i slots part (r ∷ rs) = IsRow i slots part r × AreKeptRows i slots part rs

-- the row is of an earlier choice that differs in the front alone, and has these values and the words of the same world
pub record MeetsRow (r : KeptRow) (choice : List ℕ) (front : ℕ) (time : ℤ) (values encoded : List ℤ) : Type 0 where
  pub front_is : r.front ≡ front
  pub time_is : r.time ≡ time
  pub words_are : r.words ≡ values ++ encoded
  pub order : IsEarlierInFront front r.choice choice

-- ---- a step that passes the times of slots

-- a world and its words, a copy of its tasks and objects if one was made, and the time of its next interrupt
pub record KeptMoment : Type 0 where
  pub world : SeenWorld
  pub words : List ℤ
  pub pause : Option Held
  pub next : Option ℤ

pub record IsMomentOf (h : HeldWorld) (m : KeptMoment) : Type 0 where
  pub seen : IsSeenIn h m.world
  pub encoded : IsEncoded h m.words
  pub pause : IfSome m.pause (IsPauseOf h)
  pub next : m.next ≡ time_ahead (kernel_of h.tasking).pending
  pub blind : ReadsNothing h.image (world_of h)

-- no interrupt comes before the time
abbrev pub NoneBefore : (time : ℤ) → Option ℤ → Type 0
NoneBefore time None = Unit {0}
NoneBefore time (Some next) = int_le time next ≡ true

-- the run on a choice of the part stands in this moment after n steps, and the next step leads on
pub record CrossesFrom (slots : List Slot) (part : Part) (places : List ℕ) (h : HeldWorld) (n : ℕ) (next : HeldWorld) (m : KeptMoment) : Type 0 where
  pub within : AreWithin slots places
  pub is_of : is_of_part part slots places ≡ true
  pub stands : StandsAfter n h.image (schedule_of slots places) h
  pub moment : IsMomentOf h m
  pub lines : List Line
  pub leads : Leads 1 h next lines

-- the run on a choice of the part stands at this time, and its next step leads on
pub record StepsOn (slots : List Slot) (part : Part) (places : List ℕ) (until : ℤ) (limit : ℕ) (wanted : Wanted) (h : HeldWorld) (now : ℤ) (left : ℕ)
    (next : HeldWorld) : Type 0 where
  pub within : AreWithin slots places
  pub is_of : is_of_part part slots places ≡ true
  pub stands : Standing h.image (schedule_of slots places) until limit wanted h now left
  pub lines : List Line
  pub leads : Leads 1 h next lines

-- it leads from before the time of the slots after the front, with no interrupt sooner, to that time or past it, or to an outcome
pub record CrossesAt (slots : List Slot) (m : KeptMoment) (next : HeldWorld) (front : ℕ) (time : ℤ) : Type 0 where
  pub parted : ArePartedAt time front slots
  pub late : pos 0 <ℤ time
  pub early : int_lt m.world.time time ≡ true
  pub none : NoneBefore time m.next
  pub crossed : IsEarly time (world_of next).kernel → ⊥

-- ---- what the run on a choice comes to

-- the run on this choice is after n steps where that on an earlier one of the part is, where the slots at the front are no fewer than those that tell the
-- parts apart
pub record HasMetAfter (i : Sections) (slots : List Slot) (part : Part) (places : List ℕ) (n : ℕ) (front : ℕ) : Type 0 where
  pub earlier : List ℕ
  pub time : ℤ
  pub last : ℤ
  pub steps : ℕ
  pub met : HaveMet i slots front time last earlier places steps n
  pub is_of : is_of_part part slots earlier ≡ true
  pub no_less : front_of part slots ≤ front

-- and it has written nothing that is wanted
pub record HasMetQuietly (i : Sections) (slots : List Slot) (part : Part) (until : ℤ) (wanted : Wanted) (places : List ℕ) (front : ℕ) : Type 0 where
  pub n : ℕ
  pub met : HasMetAfter i slots part places n front
  pub none : NoneWanted until wanted (kernels i (schedule_of slots places) n).lines

-- it has come to its end before the times of the slots after the front
pub record IsOverBefore (i : Sections) (slots : List Slot) (places : List ℕ) (front : ℕ) : Type 0 where
  pub time : ℤ
  pub steps : ℕ
  pub ends : EndsBefore i slots front time places steps

abbrev pub ComesAlong : Sections → List Slot → Part → (until : ℤ) → (limit : ℕ) → Wanted → (places : List ℕ) → Followed → Type 0
ComesAlong i slots part until limit wanted places (followed.Found finding) =
    AnswersRun i (schedule_of slots places) until limit wanted (answers.Found finding)
ComesAlong i slots part until limit wanted places (followed.TooLong time) =
    AnswersRun i (schedule_of slots places) until limit wanted (answers.TooLong time)
ComesAlong i slots part until limit wanted places followed.Nothing = AnswersRun i (schedule_of slots places) until limit wanted answers.Nothing
ComesAlong i slots part until limit wanted places (followed.Met front) = HasMetQuietly i slots part until wanted places front
ComesAlong i slots part until limit wanted places (followed.Over front) =
    AnswersRun i (schedule_of slots places) until limit wanted answers.Nothing × IsOverBefore i slots places front

-- what an outcome at a time comes to, where a later slot may change it, and where none can
abbrev pub IsOverThere : List Slot → Kernel → Followed → Type 0
IsOverThere slots k (followed.Over front) = (time : ℤ) × ArePartedAt time front slots × IsAtEnd time k
IsOverThere slots k followed.Nothing = Unit {0}
IsOverThere slots k _ = ⊥

abbrev pub EndsAs : List Slot → Wanted → End → (now : ℤ) → Kernel → Followed → Type 0
EndsAs slots wanted outcome now k (followed.Found finding) = JudgedOutcome wanted outcome now (answers.Found finding)
EndsAs slots wanted outcome now k followed.Nothing = JudgedOutcome wanted outcome now answers.Nothing
EndsAs slots wanted outcome now k (followed.Over front) = JudgedOutcome wanted outcome now answers.Nothing × IsOverThere slots k (followed.Over front)
EndsAs slots wanted outcome now k _ = ⊥
