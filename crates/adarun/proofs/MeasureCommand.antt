-- What `measure` of a set leaves, by its exit status.
use Rattle.std.proofs.Common.{◌≡◌, ℕ, ℤ, List, Option, Bool, true, false, cond, sym, subst}
use Rattle.std.specs.Prelude.{nat_eq}
use Rattle.choices.specs.declared.part.Part.{Part}
use Rattle.command_line.specs.Words as words_of
use Rattle.adarun.specs.Driving.{HasMeasured, LeavesGo, LeavesMeasures, LeavesSearch, measured_status}
use Rattle.adarun.specs.Reading.{Contents}
use Rattle.adarun.specs.declared.program.Status.{Status}
use Rattle.adarun.specs.declared.program.Status.TheVariants.{Done, NoMemory, ScheduleRefused, SourceRefused, StepLimit}

module _ (is_fields : Bool) (contents : Contents) (source choices : List ℕ) (until : ℤ) (limit : ℕ) (old new : Option (List ℕ)) where
  abbrev pub Leaves : Status → Type 0
  Leaves status = LeavesMeasures is_fields contents source choices until limit status old new

  has_measured : (b : Bool) → HasMeasured is_fields contents source choices until limit (cond b Done StepLimit) old new → Leaves (cond b Done StepLimit)
  has_measured true h = h
  has_measured false h = h

  pub measures_leave : (status : Status) (cut : ℕ) → status ≡ measured_status cut
      → HasMeasured is_fields contents source choices until limit (measured_status cut) old new → Leaves status
  measures_leave status cut e h = subst Leaves (sym e) (has_measured (nat_eq cut 0) h)

  -- a source that is refused leaves what it leaves to `go`
  pub refused_measures : (known : Option (List ℕ)) (b : Bool) (status : Status) → status ≡ cond b NoMemory SourceRefused
      → LeavesGo contents source known limit status old new → Leaves status
  refused_measures known true status e h = subst Leaves (sym e) (subst (λ s. LeavesGo contents source known limit s old new) e h)
  refused_measures known false status e h = subst Leaves (sym e) (subst (λ s. LeavesGo contents source known limit s old new) e h)

  -- a set that is refused leaves what it leaves to `search`
  pub unchosen_measures : (sought : words_of.Wanted) (part : Part) (b : Bool) (status : Status) → status ≡ cond b NoMemory ScheduleRefused
      → LeavesSearch contents source (contents choices) until limit sought part status old new → Leaves status
  unchosen_measures sought part true status e h = subst Leaves (sym e) (subst (λ s. LeavesSearch contents source (contents choices) until limit sought part s old new) e h)
  unchosen_measures sought part false status e h = subst Leaves (sym e) (subst (λ s. LeavesSearch contents source (contents choices) until limit sought part s old new) e h)
