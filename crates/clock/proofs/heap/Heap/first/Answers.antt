use Rattle.std.proofs.Common.{ap, subst, ◌∙◌}
use Rattle.std.specs.Prelude.{slice_get}
use Rattle.clock.specs.Heaps.{IsHeap}
use Rattle.clock.proofs.Heaps.{first_told}
use Rattle.clock.proofs.heap.Heap.first.Goals as goal

pub returns-clause-least : goal.returns-clause-least
returns-clause-least c = first_told c.args.self.now c.copied.result
    (c.copied.ensures ∙ c.first.ensures.value ∙ ap (λ l. slice_get l 0) (c.as_slice.ensures.value ∙ c.self.view_is))
    (subst IsHeap c.self.view_is c.self.invariant.1)
