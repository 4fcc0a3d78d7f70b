use Rattle.std.proofs.Common.{rules, ap, ◌∙◌, get_or}
use Rattle.std.specs.List.{swap_remove}
use Rattle.clock.proofs.Heaps.{front_is, taken, written_back}
use Rattle.clock.proofs.heap.Heap.pop.Goals as goal

pub returns-clause-left : goal.returns-clause-left
returns-clause-left c =
    let x = c.swap_remove-first.result in
    taken c.args.self.now c.swap_remove-first.new.self.items _ x (search rules)
    (c.swap_remove-first.ensures.value ∙ ap (λ l. get_or l 0 x) c.self.view_is)
    (c.swap_remove-first.ensures.items ∙ ap (λ l. swap_remove l 0 x) c.self.view_is)
    (written_back c.swap_remove-first.new.self.items _ c.sink_front.new.entries c.as_mut_slice.ensures.value c.sink_front.ensures.long c.sink_front.ensures.permutation)

pub returns-clause-front : goal.returns-clause-front
returns-clause-front c =
    let x = c.swap_remove-first.result in
    front_is c.args.self.now x (search rules) (c.swap_remove-first.ensures.value ∙ ap (λ l. get_or l 0 x) c.self.view_is)
