use Rattle.std.proofs.Common.{refl, rules, sym, ◌∙◌}
use Rattle.clock.proofs.Heaps.{due_taken, nobody_due}
use Rattle.clock.proofs.heap.Heap.pop_due.Goals as goal

pub returns-then-now-first : goal.returns-then-now-first
returns-then-now-first c = (refl, nobody_due c.args.now c.in_ok-first.first c.args.self.now c.in_ok-first.ensures.least.1 (search rules))

pub returns : goal.returns
returns c = due_taken c.args.now c.args.self.now c.pop.new.self c.in_ok-first.first c.pop.result (c.pop.ensures.front ∙ sym c.first.ensures.front ∙ c.in_ok-first.was) (search rules)
    c.pop.ensures.left
