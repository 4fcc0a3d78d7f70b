use Rattle.std.proofs.Common.{ap, sym, ◌∙◌}
use Rattle.tasking.specs.Held.{kernel_of}
use Rattle.machine.specs.TaskStates.{place_asked, place_if}
use Rattle.machine.proofs.running.Machine.place.Goals as goal

pub returns-in-Some : goal.returns-in-Some
returns-in-Some g c =
    let same = c.tasking-tasking.ensures.same ∙ ap (λ h. h.tasking) c.self.view_is in
    let k = kernel_of c.tasking-tasking.result.now in
    c.place.ensures ∙ (ap (place_if k) (sym c.in-Some.is ∙ c.asked.ensures.same) ∙ ap (λ t. place_asked (kernel_of t) c.args.task) same)

pub returns-in-None : goal.returns-in-None
returns-in-None g c =
    let same = c.tasking-tasking.ensures.same ∙ ap (λ h. h.tasking) c.self.view_is in
    let k = kernel_of c.tasking-tasking.result.now in
    ap (place_if k) (sym c.in-None.is ∙ c.asked.ensures.same) ∙ ap (λ t. place_asked (kernel_of t) c.args.task) same
