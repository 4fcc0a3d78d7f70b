use Rattle.std.proofs.Common.{refl}
use Rattle.charts.specs.Text.{shown_actor}
use Rattle.charts.proofs.Pieces.{one_added}
use Rattle.charts.proofs.text.add_actors.Goals as goal

pub loop-actor-preserved : goal.loop-actor-preserved
loop-actor-preserved c shown is =
    one_added _ _ _ (shown_actor c.args.image.now shown c.args.columns) c.loop-actor.actor _ (c.loop-actor.invariant shown is) (c.in_ok-add_actor.ensures shown is) refl
