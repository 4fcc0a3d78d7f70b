use Rattle.std.proofs.Common.{◌∙◌}
use Rattle.measuring.specs.Text.{shown_usage}
use Rattle.measuring.proofs.Rows.{one_added}
use Rattle.measuring.proofs.text.add_usages_of.Goals as goal

pub loop-object-preserved : goal.loop-object-preserved
loop-object-preserved c u grid =
    one_added _ _ _ (shown_usage c.args.form c.args.image.now c.args.names.now u c.args.actor) c.loop-object.object _ (c.loop-object.invariant u grid) c.in_ok-extend_from_slice.ensures.items
    (c.as_slice.ensures.value ∙ c.shown_usage.ensures u (c.usage_at-measures.ensures u grid))
