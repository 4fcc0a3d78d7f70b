-- When tasks called the entries in whose queues they wait (RM 9.5.3).
use Rattle.std.specs.Prelude.{ℕ, zero, suc, Bool, true, false, if◌then◌else◌, List, [], ◌∷◌, ◌++◌, ℤ, pos, Option, Some, None, slice_get, slice_set}
use Rattle.base.specs.declared.schedule.ScheduleLine.{ScheduleLine}
use Rattle.kernel.specs.State.{IsQueued, TaskPlace}
use Rattle.image.specs.Code.{code}
use Rattle.image.specs.Sections.{Sections}
use Rattle.tracing.specs.declared.calls.TheConstants.{ACTORS}

-- of each task, by its number, the time of the last call that had to wait; 0 where there was none
abbrev pub CallTimes : Type 0
CallTimes = List ℤ

abbrev pub no_calls : ℕ → CallTimes
no_calls zero = []
no_calls (suc n) = no_calls n ++ pos 0 ∷ []

abbrev pub time_of : Option ℤ → ℤ
time_of (Some time) = time
time_of None = pos 0

abbrev pub call_time : CallTimes → ℕ → ℤ
call_time times u = time_of (slice_get times u)

abbrev pub is_queued : TaskPlace → Bool
is_queued (IsQueued o) = true
is_queued place = false

-- with a step from this time of the task that ran, which has led it to such a place
abbrev pub with_call : CallTimes → (now : ℤ) → (ran : Option ℕ) → (place : ℕ → TaskPlace) → CallTimes
with_call times now None place = times
with_call times now (Some t) place = if is_queued (place t) then slice_set times t now else times

-- after so many steps of an image's code
abbrev pub call_times : Sections → List ScheduleLine → ℕ → CallTimes
call_times i schedule zero = no_calls ACTORS
call_times i schedule (suc n) =
    let k = (code i schedule n).kernel in
    with_call (call_times i schedule n) k.now k.running (code i schedule (suc n)).kernel.place
