use Rattle.std.proofs.Common.{of_z, rules, to_z, w64}
use Rattle.std.specs.Prelude.{◌<ℤ◌}
use Rattle.searching.proofs.Reaching.{before_more}
use Rattle.searching.proofs.parting.are_each_before.Goals as goal

pub loop-slot-preserved : goal.loop-slot-preserved
loop-slot-preserved c =
    let time = to_z w64 (of_z w64 c.args.time) in
    let lt : c.slot-item.result.time <ℤ time = search (rules, c.if-time.false, c.time.ensures) in
    before_more time c.loop-slot.slot-index c.args.slots.now c.slot-item.result c.loop-slot.invariant lt c.slot-item.is c.loop-slot-test.true
