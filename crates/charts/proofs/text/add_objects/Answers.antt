use Rattle.std.proofs.Common.{◌∙◌}
use Rattle.charts.specs.Text.{row_text, shown_object}
use Rattle.std.specs.Prelude.{codes}
use Rattle.charts.proofs.Pieces.{one_added}
use Rattle.charts.proofs.text.add_objects.Goals as goal

pub loop-object-preserved : goal.loop-object-preserved
loop-object-preserved c shown is =
    let name = c.as_slice.ensures.value ∙ c.object_name-name.ensures in
    one_added _ _ _ (shown_object c.args.names.now shown c.args.columns) c.loop-object.object _ (c.loop-object.invariant shown is) (c.in_ok-add_row.ensures shown is)
    (λ j. row_text (codes "x") (shown (c.number-row.ensures.is j)) c.args.columns (name j))
