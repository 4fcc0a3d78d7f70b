use Rattle.std.proofs.Common.{ap, ◌∙◌, []}
use Rattle.tasking.specs.Held.{Held, kernel_of}
use Rattle.searching.proofs.moment.pause_of.Goals as goal

pub returns : goal.returns
returns g c =
    let same = c.tasking-tasking.ensures.same in
    let boxed = c.in_ok-pause.ensures.ok in
    record {
      handler = ap {A = Held} (λ p. p.handler) boxed ∙ (c.in-Some.ensures.handler ∙ ap (λ t. t.handler) same);
      kernel = ap kernel_of boxed ∙ (c.in-Some.ensures.kernel ∙ ap (λ t. record (kernel_of t) { pending = [] }) same);
    }
