use Rattle.std.proofs.Common.{arith, false, true, ◌+◌, ◌*◌}
use Rattle.clock.specs.Heaps.{is_before}
use Rattle.clock.proofs.Heaps.{at_any, left_first, order, right_first}
use Rattle.clock.proofs.heap.first_child.Goals.{else-right-entries-via-then-right-entries+else-is_before, else-right-entries-via-else-right-entries}
use Rattle.clock.proofs.heap.first_child.Goals as goal

pub returns-then-is_before : goal.returns-then-is_before
returns-then-is_before c = right_first is_before order c.args.entries.now c.args.at c.if-right-entries.true
    (at_any is_before order c.args.entries.now (2 * c.args.at + 1 + 1) (2 * c.args.at + 1) _ true c.is_before.result c.if-right-entries.true (omega (arith, c.if-right-entries.true)) c.is_before.ensures
    c.if-is_before.true)

pub returns-then-left-entries : goal.returns-then-left-entries
returns-then-left-entries c = left_first is_before order c.args.entries.now c.args.at c.if-left-entries.true
    (λ d within. elim c.else-right-entries.branch [
      | else-right-entries-via-then-right-entries+else-is_before w ↦
          at_any is_before order c.args.entries.now (2 * c.args.at + 1 + 1) (2 * c.args.at + 1) _ false w.is_before.result within (omega (arith, within)) w.is_before.ensures w.if-is_before.false d
      | else-right-entries-via-else-right-entries w ↦ absurd (omega (arith, within, w.if-right-entries.false))
    ])
