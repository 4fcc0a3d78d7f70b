-- What has happened in a run after so many steps, by the events of its trace.
use Rattle.std.specs.Prelude.{ℕ, zero, suc, List, Option, Some, None, length}
use Rattle.base.specs.declared.schedule.ScheduleLine.{ScheduleLine}
use Rattle.kernel.specs.State.{Kernel, Outcome}
use Rattle.image.specs.Code.{code}
use Rattle.image.specs.Sections.{Sections}
use Rattle.execution.specs.Ahead.{next_frames}
use Rattle.execution.specs.declared.frame_use.FrameUse.{FrameUse}
use Rattle.tracing.specs.Calls.{CallTimes, call_times}
use Rattle.tracing.specs.Changes.{is_later, next_ahead, since_clock, starts, until_clock}
use Rattle.tracing.specs.declared.ahead.Ahead.{Ahead}
use Rattle.measuring.specs.Measures.{no_steps, with_step}
use Rattle.measuring.specs.Stories.{ObjectCalls, Stories, Usages, noticed, not_called, not_used, nothing_happened, with_calls, with_events, with_notice, with_step_inside, with_usages}
use Rattle.measuring.specs.declared.happening.Happening.TheVariants as happens
use Rattle.measuring.specs.declared.instants.Instants.{Instants}

-- Throughout, step n leads from kernel k to kernel l, and its events are those of the trace (tracing/specs/Traces, rows_of_step): none where there was an
-- outcome, and so nobody ran.

-- the task that runs takes the step, before which it has this of frames, and then its events tell
abbrev pub happened_by_step : (tasks : ℕ) → CallTimes → Ahead → Option FrameUse → Kernel → Kernel → ℕ → Option Outcome → Option ℕ → Stories → Stories
happened_by_step tasks calls ahead frames k l n (Some o) running stories = stories
happened_by_step tasks calls ahead frames k l n None None stories = stories
happened_by_step tasks calls ahead frames k l n None (Some t) stories =
    with_events tasks l.now n (since_clock k l t)
    (with_events tasks k.now n (until_clock calls ahead k l t) (with_notice (noticed t (happens.Steps n frames)) stories))

abbrev pub stories : Sections → List ScheduleLine → ℕ → Stories
stories i schedule zero = let k = (code i schedule 0).kernel in with_events (length i.tasks) k.now 0 (starts k) nothing_happened
stories i schedule (suc n) =
    let w = code i schedule n in
    let l = (code i schedule (suc n)).kernel in
    happened_by_step (length i.tasks) (call_times i schedule n) (next_ahead i schedule w) (next_frames w) w.kernel l (suc n) w.kernel.outcome w.kernel.running
    (stories i schedule n)

abbrev pub called_by_step : CallTimes → Ahead → Kernel → Kernel → Option Outcome → Option ℕ → ObjectCalls → ObjectCalls
called_by_step times ahead k l (Some o) running calls = calls
called_by_step times ahead k l None None calls = calls
called_by_step times ahead k l None (Some t) calls = with_calls (until_clock times ahead k l t) calls

abbrev pub calls : Sections → List ScheduleLine → ℕ → ObjectCalls
calls i schedule zero = not_called
calls i schedule (suc n) =
    let w = code i schedule n in
    let l = (code i schedule (suc n)).kernel in
    called_by_step (call_times i schedule n) (next_ahead i schedule w) w.kernel l w.kernel.outcome w.kernel.running (calls i schedule n)

-- the task that runs takes the step inside the objects of which it has actions open before it, and then its events tell
abbrev pub used_by_step : CallTimes → Ahead → Kernel → Kernel → Option Outcome → Option ℕ → Usages → Usages
used_by_step times ahead k l (Some o) running usages = usages
used_by_step times ahead k l None None usages = usages
used_by_step times ahead k l None (Some t) usages =
    with_usages (until_clock times ahead k l t) (with_step_inside k.partition.objects (k.actions t) t usages)

abbrev pub usages : Sections → List ScheduleLine → ℕ → Usages
usages i schedule zero = not_used
usages i schedule (suc n) =
    let w = code i schedule n in
    let l = (code i schedule (suc n)).kernel in
    used_by_step (call_times i schedule n) (next_ahead i schedule w) w.kernel l w.kernel.outcome w.kernel.running (usages i schedule n)

abbrev pub counted_by_step : Kernel → Kernel → Option Outcome → Option ℕ → Instants → Instants
counted_by_step k l (Some o) running instants = instants
counted_by_step k l None None instants = instants
counted_by_step k l None (Some t) instants = with_step k.now (is_later k l) instants

abbrev pub instants : Sections → List ScheduleLine → ℕ → Instants
instants i schedule zero = no_steps
instants i schedule (suc n) =
    let k = (code i schedule n).kernel in
    counted_by_step k (code i schedule (suc n)).kernel k.outcome k.running (instants i schedule n)
