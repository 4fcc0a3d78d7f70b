use Rattle.std.proofs.Common.{rules, ◌≡◌, ◌∙◌, ap, of_z, subst, to_z, w64}
use Rattle.charts.specs.Scales.{column}
use Rattle.charts.specs.Signs.{Cells, with_events}
use Rattle.charts.specs.Tables.{HoldsCells}
use Rattle.charts.proofs.charting.note_start.Goals as goal

pub returns-clause-noted : goal.returns-clause-noted
returns-clause-noted g c shown is =
    let now : to_z w64 (of_z w64 c.now.result) ≡ c.now.result = search rules in
    let here = c.column-here.ensures.is ∙ ap (column c.args.scale) (now ∙ c.now.ensures) in
    let events = c.as_slice.ensures.value ∙ c.starts.ensures in
    subst (λ (seen : Cells). HoldsCells c.note_events.new.cells seen) (λ j. with_events (here j) (events j) shown) (c.note_events.ensures.noted shown is)
