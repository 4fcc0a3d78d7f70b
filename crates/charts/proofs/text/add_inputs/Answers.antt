use Rattle.std.proofs.Common.{◌∙◌, ap, of_z, to_z, w64}
use Rattle.charts.specs.Text.{comes, input_mark}
use Rattle.charts.proofs.Pieces.{one_added}
use Rattle.charts.proofs.text.add_inputs.Goals as goal

pub loop-column-preserved : goal.loop-column-preserved
loop-column-preserved c =
    one_added _ _ _ (λ at. input_mark (comes c.args.lines.now c.args.scale (to_z w64 (of_z w64 c.args.last)) at)) c.loop-column.column _ c.loop-column.invariant c.in_ok-extend_from_slice.ensures.items
    (c.input_mark.ensures ∙ ap input_mark c.comes.ensures)
