use Rattle.std.proofs.Common.{refl, subst, sym, ◌∙◌}
use Rattle.image.specs.Code.{start}
use Rattle.tasking.specs.Held.{kernel_of}
use Rattle.searching.specs.Following.{Standing}
use Rattle.searching.proofs.Standing.{stands_first}
use Rattle.searching.proofs.beginning.begin_first.Goals as goal

pub returns-clause-stands : goal.returns-clause-stands
returns-clause-stands c = λ until wanted.
    let h = c.in_ok-execution.execution in
    let image = c.in_ok-execution.ensures.image in
    let schedule = c.in_ok-execution.ensures.schedule in
    let world = c.in_ok-execution.ensures.world ∙ (λ j. start (sym image j) (sym schedule j)) in
    subst (λ i. Standing i c.args.schedule.now until c.args.limit wanted h (kernel_of h.tasking).now c.args.limit) image
    (subst (λ s. Standing h.image s until c.args.limit wanted h (kernel_of h.tasking).now c.args.limit) schedule
    (stands_first c.left_unmoved.ensures until c.args.limit wanted h (kernel_of h.tasking).now world refl))
