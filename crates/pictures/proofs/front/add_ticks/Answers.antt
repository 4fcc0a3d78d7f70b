use Rattle.std.proofs.Common.{ap}
use Rattle.pictures.specs.Front.{tick_text, times}
use Rattle.pictures.proofs.Pieces.{one_added}
use Rattle.pictures.proofs.front.add_ticks.Goals as goal

pub loop-tick-preserved : goal.loop-tick-preserved
loop-tick-preserved c =
    one_added _ _ _ (λ k. tick_text c.args.frame c.args.axis (times k c.args.spacing)) c.loop-tick.tick _ c.loop-tick.invariant c.in_ok-add_tick.ensures
    (ap (tick_text c.args.frame c.args.axis) c.saturating_mul.ensures)
