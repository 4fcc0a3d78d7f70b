-- What the search compares of two runs that may have met; nobody has to believe this.
use Rattle.std.specs.Prelude.{◌≡◌, ◌≢◌, ◌⊎◌, ℕ, ◌+◌, ℤ, ◌<ℤ◌, pos, List, [], ◌∷◌, Option, Some, None, drop, take, true, ◌&&◌, int_le, int_lt, is_some, nat_le}
use Rattle.std.specs.List.{list_all}
use Rattle.base.specs.Schedule.{input}
use Rattle.base.specs.declared.limits.TheConstants.{CHANNELS}
use Rattle.base.specs.declared.schedule.ScheduleLine.{ScheduleLine}
use Rattle.choices.specs.Places.{AreWithin, taken}
use Rattle.choices.specs.Slots.{Slot, lines_of}
use Rattle.choices.specs.Stepping.{IsEarlierInFront}
use Rattle.image.specs.Code.{CodeWorld, code}
use Rattle.image.specs.Sections.{Sections}
use Rattle.kernel.specs.State.{IsReady, Kernel, Line, Outcome}
use Rattle.tasking.specs.Held.{Held, kernel_of}
use Rattle.execution.specs.Held.{HeldWorld, Leads, world_of, world_with}
use Rattle.likeness.specs.Worlds.{IsEarly, IsLastBefore, IsSure, NoneSooner, ReadsNothing}

abbrev pub AreEachBefore : (time : ℤ) → List Slot → Type 0
AreEachBefore time [] = Unit {0}
AreEachBefore time (s ∷ slots) = (int_lt s.time time ≡ true) × AreEachBefore time slots

abbrev pub AreEachFrom : (time : ℤ) → List Slot → Type 0
AreEachFrom time [] = Unit {0}
AreEachFrom time (s ∷ slots) = (int_le time s.time ≡ true) × AreEachFrom time slots

-- the schedule of a choice
abbrev pub schedule_of : List Slot → List ℕ → List ScheduleLine
schedule_of slots places = lines_of slots (taken slots places)

-- so many slots at the front are before the time, and the others are not
pub record ArePartedAt (time : ℤ) (front : ℕ) (slots : List Slot) : Type 0 where
  pub before : AreEachBefore time (take front slots)
  pub from : AreEachFrom time (drop front slots)

-- the slot gives the channel a value at this time, whichever alternative is taken
pub record SetsAnew (time : ℤ) (channel : ℕ) (s : Slot) : Type 0 where
  pub time_is : s.time ≡ time
  pub channel_is : s.channel ≡ channel
  pub given : list_all is_some s.alternatives ≡ true

-- some slot does
abbrev pub IsSetAnew : (time : ℤ) → (channel : ℕ) → List Slot → Type 0
IsSetAnew time channel [] = ⊥
IsSetAnew time channel (s ∷ slots) = SetsAnew time channel s ⊎ IsSetAnew time channel slots

-- each channel has the same last value before a time under both schedules, unless one of these slots gives it another at this time
abbrev pub AgreeUnlessSet : List Slot → (time last : ℤ) → List ScheduleLine → List ScheduleLine → Type 0
AgreeUnlessSet slots time last r s =
    (channel : ℕ) → (nat_le 1 channel && nat_le channel CHANNELS) ≡ true → IsSetAnew time channel slots ⊎ (input r channel last ≡ input s channel last)

-- the kernel and what tasks hold are the same but for the lines that were written
pub record AreLike (v w : CodeWorld) : Type 0 where
  pub kernel : v.kernel ≡ record w.kernel { pending = v.kernel.pending; lines = v.kernel.lines }
  pub rest : v.rest ≡ w.rest

-- each task stands in the same place, and nobody is ready
abbrev pub StandAlike : Held → Held → Type 0
StandAlike g h = (u : ℕ) → ((kernel_of g).place u ≡ (kernel_of h).place u) × ((kernel_of g).place u ≢ IsReady)

-- what is held is the world of code after so many steps
pub record StandsAfter (n : ℕ) (i : Sections) (schedule : List ScheduleLine) (h : HeldWorld) : Type 0 where
  pub image : h.image ≡ i
  pub schedule_is : h.schedule ≡ schedule
  pub stands : code i schedule n ≡ world_with (code i schedule n).kernel.lines h

-- before a time both hold the same world, and the step after which the one holds another one leads to the time, or to an outcome
pub record MeetThere (time : ℤ) (one other after : HeldWorld) : Type 0 where
  pub before : IsEarly time (world_of one).kernel
  pub alike : AreLike (world_of one) (world_of other)
  pub none : NoneSooner time (world_of one)
  pub none_other : NoneSooner time (world_of other)
  pub blind : ReadsNothing one.image (world_of one)
  pub lines : List Line
  pub leads : Leads 1 one after lines
  pub crossed : IsEarly time (world_of after).kernel → ⊥

-- where there is a time that parts the slots, there is a last one before it
abbrev pub PartsAt : Option ℤ → ℕ → List Slot → Type 0
PartsAt None front slots = Unit {0}
PartsAt (Some time) front slots = ArePartedAt time front slots × (pos 0 <ℤ time)

-- just before the time of the slots behind the front, the run on this choice stands in the same world as that on an earlier one, which differs in the front
-- alone, and the channels have the same values, but for those that get one at that time whichever choice is taken
pub record HaveMet (i : Sections) (slots : List Slot) (front : ℕ) (time last : ℤ) (earlier places : List ℕ) (m n : ℕ) : Type 0 where
  pub parted : ArePartedAt time front slots
  pub last_is : IsLastBefore last time
  pub within : AreWithin slots earlier
  pub order : IsEarlierInFront front earlier places
  pub before : IsEarly time (code i (schedule_of slots places) n).kernel
  pub alike : AreLike (code i (schedule_of slots places) n) (code i (schedule_of slots earlier) m)
  pub none : NoneSooner time (code i (schedule_of slots places) n)
  pub none_earlier : NoneSooner time (code i (schedule_of slots earlier) m)
  pub blind : ReadsNothing i (code i (schedule_of slots places) n)
  pub crossed : IsEarly time (code i (schedule_of slots places) (n + 1)).kernel → ⊥
  pub agree : AgreeUnlessSet (drop front slots) time last (schedule_of slots places) (schedule_of slots earlier)

-- before the time of the slots behind the front, the run on this choice has come to its end, which no later interrupt changes
pub record EndsBefore (i : Sections) (slots : List Slot) (front : ℕ) (time : ℤ) (places : List ℕ) (n : ℕ) : Type 0 where
  pub parted : ArePartedAt time front slots
  pub before : IsSure time (code i (schedule_of slots places) n).kernel
  pub outcome : Outcome
  pub over : (code i (schedule_of slots places) n).kernel.outcome ≡ Some outcome

abbrev pub IsAtEnd : (time : ℤ) → Kernel → Type 0
IsAtEnd time k = IsSure time k × ((o : Outcome) × (k.outcome ≡ Some o))
