use Rattle.std.proofs.Common.{◌≤◌, ◌<◌, ◌∙◌, ap, arith, length, sym}
use Rattle.base.specs.declared.limits.TheConstants.{TASKS}
use Rattle.tasking.specs.Held.{kernel_of}
use Rattle.waveforms.proofs.Waiting.{handler_before, nobody_before, task_before}
use Rattle.waveforms.proofs.before_clock.inside_before.Goals as goal

pub returns-in_err-number : goal.returns-in_err-number
returns-in_err-number g c =
    c.from_residual.ensures
    ∙ sym (nobody_before (kernel_of c.args.machine.now.tasking) c.args.object c.as_slice.result.now (c.as_slice.ensures.value ∙ c.inside.ensures.tasks) (sym c.first_of.ensures ∙ c.in_err-number.was))

pub returns-then-number-tasks : goal.returns-then-number-tasks
returns-then-number-tasks g c =
    let k = kernel_of c.args.machine.now.tasking in
    let one = c.inside.ensures.one in
    let same = ap (λ xs. length xs) c.as_slice.ensures.value in
    let short : length c.as_slice.result.now ≤ 1 = omega (arith, one, same) in
    let test = c.if-number-tasks.true in
    let kernel = c.tasks.ensures.kernel in
    let few = c.tasks.ensures.few in
    let less : c.in_ok-number.number < k.partition.tasks = omega (arith, test, kernel) in
    let room : k.partition.tasks ≤ TASKS = omega (arith, kernel, few) in
    sym (task_before k c.args.object c.as_slice.result.now (c.as_slice.ensures.value ∙ c.inside.ensures.tasks) c.in_ok-number.number short (sym c.first_of.ensures ∙ c.in_ok-number.was) less room)

pub returns-else-number-tasks : goal.returns-else-number-tasks
returns-else-number-tasks g c =
    let k = kernel_of c.args.machine.now.tasking in
    let one = c.inside.ensures.one in
    let same = ap (λ xs. length xs) c.as_slice.ensures.value in
    let short : length c.as_slice.result.now ≤ 1 = omega (arith, one, same) in
    let test = c.if-number-tasks.false in
    let kernel = c.tasks.ensures.kernel in
    let over : k.partition.tasks ≤ c.in_ok-number.number = omega (arith, test, kernel) in
    sym (handler_before k c.args.object c.as_slice.result.now (c.as_slice.ensures.value ∙ c.inside.ensures.tasks) c.in_ok-number.number short (sym c.first_of.ensures ∙ c.in_ok-number.was) over)
