use Rattle.std.proofs.Common.{rules, arith, map, ap, ◌≡◌, ◌∙◌, to_z, of_z, w64}
use Rattle.clock.specs.Heaps.{by_number, sleeper_of}
use Rattle.clock.specs.Sleepers.{due, waiting}
use Rattle.clock.proofs.Waking.{all_told, due_tasks, left_over, still_waiting}
use Rattle.clock.proofs.heap_delays.HeapDelaysDelays.expire.Goals as goal

same_time : (c : goal.After-loop-entry) → to_z w64 (of_z w64 c.args.now) ≡ c.args.now
same_time c = search rules

pub invariant_of-self : goal.invariant_of-self
invariant_of-self c = (
  omega (arith, c.take_due.ensures.long, c.self.invariant.0),
  (c.take_due.ensures.distinct, λ e has. c.self.invariant.1.1 e (c.take_due.ensures.within e has)),
)

pub returns-clause-tasks : goal.returns-clause-tasks
returns-clause-tasks c =
    all_told c.loop-entry.tasks.items c.as_slice-entry-items.result.now c.loop-entry.entry-index c.loop-entry-test.false c.loop-entry.invariant.0
    ∙ ap (map (λ e. e.task)) (c.as_slice-entry-items.ensures.value ∙ c.take_due.ensures.due)
    ∙ due_tasks (to_z w64 (of_z w64 c.args.now)) (by_number c.self.inside.heap)
    ∙ ap (λ t. due t (map sleeper_of (by_number c.self.inside.heap))) (same_time c)
    ∙ ap (λ d. due c.args.now d.sleepers) c.self.view_is

pub returns-clause-left : goal.returns-clause-left
returns-clause-left c =
    left_over c.args.self.now c.self.inside.next_number _ _ c.args.now
    (ap (map sleeper_of) c.take_due.ensures.waiting
    ∙ still_waiting (to_z w64 (of_z w64 c.args.now)) (by_number c.self.inside.heap)
    ∙ ap (λ t. waiting t (map sleeper_of (by_number c.self.inside.heap))) (same_time c))
    c.self.view_is
