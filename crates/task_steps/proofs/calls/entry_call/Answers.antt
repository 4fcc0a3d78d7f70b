use Rattle.std.proofs.Common.{rules, ◌≡◌, ◌≤◌, ◌||◌, true, false, Some, length, slice_get, subst, sym, ◌∙◌}
use Rattle.image.specs.Frames.{Opened}
use Rattle.image.specs.Operations.{called, called_if, entry_of, parameters_of}
use Rattle.image.specs.Steps.{enters, is_open, queues, with_frame_left}
use Rattle.kernel.specs.Effects.{Opens, is_above_ceiling, is_inside_any}
use Rattle.processor.specs.Decoding.{words_in}
use Rattle.task_steps.specs.Acting.{stepped_of}
use Rattle.tasking.specs.Held.{kernel_of}
use Rattle.task_steps.proofs.CallSteps.{entry_calls, entry_closed, entry_open}
use Rattle.task_steps.proofs.calls.entry_call.Goals as goal

pub returns-then-not-is_open-clause-does : goal.returns-then-not-is_open-clause-does
returns-then-not-is_open-clause-does g c = λ schedule.
    let i = c.args.program.now in
    let k = kernel_of c.args.tasking.now in
    let m = words_in i c.args.memory.now.shared in
    let f = c.args.state.now.task.frame in
    let fs = c.args.state.now.task.callers in
    let s = c.in-Some-called.subprogram in
    let n = c.in-Some.number in
    let o = c.args.object in
    let entry : entry_of (slice_get i.objects o) ≡ Some n = search rules in
    let there : called i n ≡ Some s = search rules in
    let enough = subst (λ v. parameters_of v ≤ length f.stack) there (subst (λ e. parameters_of (called_if i e) ≤ length f.stack) entry c.requires.here.there) in
    let closed : is_open i m o ≡ false = search rules in
    let allowed : (is_inside_any k c.args.task || is_above_ceiling k c.args.task o) ≡ false = search rules in
    entry_calls i schedule k c.args.task m f fs o n s entry there enough
    ∙ (entry_closed i schedule k c.args.task m f fs o n s allowed closed
    ∙ subst (λ p. with_frame_left i schedule k c.args.task m f fs (queues i schedule k c.args.task m f fs p) ≡ stepped_of i c.queue.result c.args.memory.now c.queue.new.state.task) c.object_number-object.ensures (c.queue.ensures.does schedule c.args.task (sym c.is_task-is_task.ensures)))

pub returns-clause-does : goal.returns-clause-does
returns-clause-does g c = λ schedule.
    let i = c.args.program.now in
    let k = kernel_of c.args.tasking.now in
    let m = words_in i c.args.memory.now.shared in
    let f = c.args.state.now.task.frame in
    let fs = c.args.state.now.task.callers in
    let s = c.in-Some-called.subprogram in
    let n = c.in-Some.number in
    let o = c.args.object in
    let entry : entry_of (slice_get i.objects o) ≡ Some n = search rules in
    let there : called i n ≡ Some s = search rules in
    let enough = subst (λ v. parameters_of v ≤ length f.stack) there (subst (λ e. parameters_of (called_if i e) ≤ length f.stack) entry c.requires.here.there) in
    let barrier : is_open i m o ≡ true = search rules in
    let allowed : (is_inside_any k c.args.task || is_above_ceiling k c.args.task o) ≡ false = search rules in
    let number = c.object_number-object.ensures in
    let object = c.from.ensures ∙ number in
    entry_calls i schedule k c.args.task m f fs o n s entry there enough
    ∙ (entry_open i schedule k c.args.task m f fs o n s allowed barrier
    ∙ (sym (λ j. with_frame_left i schedule k c.args.task m f fs (enters i schedule k c.args.task m f fs (Opens (number j)) (Opened (object j)) n s))
    ∙ c.enter.ensures.does schedule k c.args.task (sym c.is_task-is_task.ensures)))
