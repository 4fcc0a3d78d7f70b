use Rattle.std.proofs.Common.{◌≤◌, ◌∙◌, map, ap, length, sym, subst, arith}
use Rattle.image_laws.specs.Whole.{IsWhole}
use Rattle.kernel.specs.Interrupts.{told}
use Rattle.kernel.specs.State.{inside}
use Rattle.tasking.specs.Held.{kernel_of}
use Rattle.execution.specs.Held.{world_of}
use Rattle.machine.proofs.Inside.{all_told, few_inside, few_told, room_told}
use Rattle.machine.proofs.running.Machine.inside.Goals as goal

pub push-requires : goal.push-requires
push-requires g c =
    let k = kernel_of c.args.self.now.tasking in
    let whole = subst (λ h. IsWhole h.image (world_of h)) c.self.view_is c.tasking-tasking.ensures.whole in
    let same = ap (λ t. kernel_of t) (c.tasking-tasking.ensures.same ∙ ap (λ h. h.tasking) c.self.view_is) in
    let most = few_inside _ k (c.four_statements_hold.ensures _ k whole.kept) c.args.object _ c.inside-inside.result.items same c.inside-inside.ensures in
    let room = room_told (told (kernel_of c.tasking-tasking.result.now).partition) c.loop-task.numbers.items c.as_slice-tasks.result.now c.loop-task.task-index
    (subst (λ l. length l ≤ 1) (sym c.as_slice-tasks.ensures.value) most) c.loop-task.invariant in
    omega (arith, room)

pub returns-clause-tasks : goal.returns-clause-tasks
returns-clause-tasks g c =
    let same = c.tasking-tasking.ensures.same ∙ ap (λ h. h.tasking) c.self.view_is in
    let past = c.loop-task-test.false in
    all_told (told (kernel_of c.tasking-tasking.result.now).partition) c.loop-task.numbers.items c.as_slice-tasks.result.now c.loop-task.task-index (omega (arith, past)) c.loop-task.invariant
    ∙ (ap (map (told (kernel_of c.tasking-tasking.result.now).partition)) (c.as_slice-tasks.ensures.value ∙ c.inside-inside.ensures)
    ∙ ap (λ t. map (told (kernel_of t).partition) (inside (kernel_of t) c.args.object)) same)

pub returns-clause-one : goal.returns-clause-one
returns-clause-one g c =
    let k = kernel_of c.args.self.now.tasking in
    let whole = subst (λ h. IsWhole h.image (world_of h)) c.self.view_is c.tasking-tasking.ensures.whole in
    let same = ap (λ t. kernel_of t) (c.tasking-tasking.ensures.same ∙ ap (λ h. h.tasking) c.self.view_is) in
    let most = few_inside _ k (c.four_statements_hold.ensures _ k whole.kept) c.args.object _ c.inside-inside.result.items same c.inside-inside.ensures in
    let list = subst (λ l. length l ≤ 1) (c.inside-inside.ensures ∙ ap (λ k. inside k c.args.object) same) most in
    subst (λ l. length l ≤ 1) (sym (returns-clause-tasks g c)) (few_told (told k.partition) (inside k c.args.object) list)
