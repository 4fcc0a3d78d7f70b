use Rattle.std.proofs.Common.{rules, arith, length, ap, ◌+◌, ◌∙◌}
use Rattle.clock.specs.Numbering.{free_number}
use Rattle.clock.proofs.Adding.{length_sleepers, numbered_next, one_more_sleeper}
use Rattle.clock.proofs.heap_delays.HeapDelaysDelays.add.Goals as goal

pub push-requires : goal.push-requires
push-requires c = omega (arith, c.requires.room, length_sleepers c.self.inside.heap, ap (λ d. length d.sleepers) c.self.view_is, c.next_free-number.ensures.long)

pub invariant_of-self : goal.invariant_of-self
invariant_of-self c = (
  omega (arith, c.requires.room, length_sleepers c.self.inside.heap, ap (λ d. length d.sleepers) c.self.view_is, c.next_free-number.ensures.long, c.push.ensures.long),
  (one_more_sleeper c.next_free-number.new.heap c.push.new.self c.args.self.now.sleepers _ c.push.ensures.moved c.next_free-number.ensures.numbered
      (c.next_free-number.ensures.same ∙ ap (λ d. d.sleepers) c.self.view_is)).1,
)

pub returns : goal.returns
returns c =
    numbered_next c.args.self.now _ _ _
    ((one_more_sleeper c.next_free-number.new.heap c.push.new.self c.args.self.now.sleepers _ c.push.ensures.moved c.next_free-number.ensures.numbered
    (c.next_free-number.ensures.same ∙ ap (λ d. d.sleepers) c.self.view_is)).0
    ∙ search rules)
    (ap (λ n. n + 1) (c.next_free-number.ensures.free ∙ ap (λ d. free_number d.next d.sleepers) c.self.view_is))
