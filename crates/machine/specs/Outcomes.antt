-- What the machine's outcomes say, as the kernel has them.
use Rattle.std.specs.Prelude.{ℤ, Option, Some, None}
use Rattle.kernel.specs.State as kernel
use Rattle.machine.specs.declared.reports.Outcome.{Outcome}
use Rattle.machine.specs.declared.reports.Outcome.TheVariants.{Ended, WaitsForever, Unhandled, ImageFault, StepLimit}

-- none where the run was cut at its limit
abbrev pub ending_of : Outcome → Option kernel.Outcome
ending_of (Ended time) = Some kernel.Ended
ending_of (WaitsForever time) = Some kernel.WaitsForever
ending_of (Unhandled exception task time) = Some (kernel.Unhandled exception task)
ending_of (ImageFault time) = Some kernel.ImageFault
ending_of (StepLimit time) = None

abbrev pub time_of : Outcome → ℤ
time_of (Ended time) = time
time_of (WaitsForever time) = time
time_of (Unhandled exception task time) = time
time_of (ImageFault time) = time
time_of (StepLimit time) = time
