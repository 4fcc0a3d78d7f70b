-- Why `go` stops before an outcome.
use Rattle.std.specs.Prelude.{ℕ, List}
use Rattle.base.specs.declared.schedule.ScheduleLine.{ScheduleLine}
use Rattle.clock.specs.Schedules as schedules
use Rattle.image.specs.Sections.{Sections}
use Rattle.adarun.specs.Accepted.{Compiles, RefusesText}
use Rattle.adarun.specs.declared.going.GoFault.{GoFault}
use Rattle.adarun.specs.declared.going.GoFault.TheVariants as faults

-- there is an image that the source compiles to
pub record HasImage (source : List ℕ) : Type 0 where
  pub image : Sections
  pub compiles : Compiles source image

-- the input is a schedule
pub record HasLines (input : List ℕ) : Type 0 where
  pub lines : List ScheduleLine
  pub is_schedule : schedules.IsScheduleText input lines

-- the fault is that of the first call that refused: the source is refused; it compiles, and the schedule is refused; or both were read, and the run stopped
abbrev pub RefusesRunning : List ℕ → List ℕ → GoFault → Type 0
RefusesRunning source input (faults.Source fault) = RefusesText source fault
RefusesRunning source input (faults.Schedule fault) = HasImage source × schedules.RefusesSchedule input fault
RefusesRunning source input (faults.Run fault) = HasImage source × HasLines input
