use Rattle.std.proofs.Common.{rules, ◌≡◌, ◌∙◌, ap, length, of_z, subst, sym, to_z, w64}
use Rattle.std.proofs.lemmas.List.{with_items_is}
use Rattle.std.specs.Io.KnownBytes.{Appends}
use Rattle.machine.specs.Written.{AppendsBeginning}
use Rattle.machine.proofs.Runs.{nothing_written, whole_beginning}
use Rattle.charts.specs.Scales.{least_scale}
use Rattle.charts.specs.Signs.{nothing_seen}
use Rattle.charts.specs.Tables.{HoldsCells}
use Rattle.charts.specs.Text.{chart_text}
use Rattle.charts.specs.declared.scale.TheConstants.{SCALES}
use Rattle.charts.proofs.Whole.{ends_here, whole_is}
use Rattle.charts.proofs.charting.chart.Goals as goal

pub returns-in-Ok-clause-ends : goal.returns-in-Ok-clause-ends
returns-in-Ok-clause-ends g c =
    let m = c.in_ok-after.ensures in
    ends_here c.args.image.now c.args.names.now c.args.schedule.now c.args.bound _ _ m.image m.schedule _ c.chart_on-outcome.ensures.ends

pub returns-in-Ok-clause-text : goal.returns-in-Ok-clause-text
returns-in-Ok-clause-text g c =
    let m = c.in_ok-after.ensures in
    let fits : to_z w64 (of_z w64 c.in_ok-last.last) ≡ c.in_ok-last.last = search rules in
    let scaled = c.least_scale-scale.ensures.is ∙ ap (least_scale SCALES) c.unsigned_abs.ensures.value in
    let room : length c.chart_on-outcome.new.cells ≡ c.in_ok-cells.cells.len = c.chart_on-outcome.ensures.room ∙ sym c.in_ok-cells.ensures.room ∙ sym c.in_ok-cells.cells.ok.0 in
    let table = c.deref.ensures.value ∙ with_items_is c.in_ok-cells.cells c.chart_on-outcome.new.cells room in
    let whole = whole_is c.args.image.now c.args.names.now c.args.schedule.now c.args.bound _ _ m.image m.schedule c.chart_on-outcome.result c.chart_on-outcome.ensures.ends _ _ (fits ∙ c.in_ok-last.ensures.time) scaled _ _ c.chart_on-outcome.ensures.charted table
    _ c.lines-lines.ensures _ _ c.in_ok-text.ensures (c.as_slice.ensures.value ∙ c.cut_line.ensures) in
    let is = c.as_slice-2.ensures.value ∙ c.in_ok-extend_from_slice.ensures.items ∙ whole in
    subst (Appends (g.S.Sink.bytes c.args.sink.now) (g.S.Sink.bytes c.write_all.new.sink)) is c.in-Ok.ensures.whole

pub returns-in-Ok-clause-beginning : goal.returns-in-Ok-clause-beginning
returns-in-Ok-clause-beginning g c = whole_beginning (g.S.Sink.bytes c.args.sink.now) (g.S.Sink.bytes c.write_all.new.sink) (chart_text c.args.image.now c.args.names.now c.args.schedule.now c.args.bound) (returns-in-Ok-clause-text g c)

pub returns-clause-beginning : goal.returns-clause-beginning
returns-clause-beginning g c =
    let m = c.in_ok-after.ensures in
    let fits : to_z w64 (of_z w64 c.in_ok-last.last) ≡ c.in_ok-last.last = search rules in
    let scaled = c.least_scale-scale.ensures.is ∙ ap (least_scale SCALES) c.unsigned_abs.ensures.value in
    let room : length c.chart_on-outcome.new.cells ≡ c.in_ok-cells.cells.len = c.chart_on-outcome.ensures.room ∙ sym c.in_ok-cells.ensures.room ∙ sym c.in_ok-cells.cells.ok.0 in
    let table = c.deref.ensures.value ∙ with_items_is c.in_ok-cells.cells c.chart_on-outcome.new.cells room in
    let whole = whole_is c.args.image.now c.args.names.now c.args.schedule.now c.args.bound _ _ m.image m.schedule c.chart_on-outcome.result c.chart_on-outcome.ensures.ends _ _ (fits ∙ c.in_ok-last.ensures.time) scaled _ _ c.chart_on-outcome.ensures.charted table
    _ c.lines-lines.ensures _ _ c.in_ok-text.ensures (c.as_slice.ensures.value ∙ c.cut_line.ensures) in
    let is = c.as_slice-2.ensures.value ∙ c.in_ok-extend_from_slice.ensures.items ∙ whole in
    subst (AppendsBeginning (g.S.Sink.bytes c.args.sink.now) (g.S.Sink.bytes c.write_all.new.sink)) is c.write_all.ensures.beginning

pub returns-in_err-text-clause-beginning : goal.returns-in_err-text-clause-beginning
returns-in_err-text-clause-beginning g c = nothing_written (g.S.Sink.bytes c.args.sink.now) (chart_text c.args.image.now c.args.names.now c.args.schedule.now c.args.bound)

pub returns-in_err-extend_from_slice-clause-beginning : goal.returns-in_err-extend_from_slice-clause-beginning
returns-in_err-extend_from_slice-clause-beginning g c = nothing_written (g.S.Sink.bytes c.args.sink.now) (chart_text c.args.image.now c.args.names.now c.args.schedule.now c.args.bound)

pub chart_on-outcome-requires-clause-nothing : goal.chart_on-outcome-requires-clause-nothing
chart_on-outcome-requires-clause-nothing g c = subst (λ table. HoldsCells table nothing_seen) (sym c.deref_mut.ensures.value) c.in_ok-cells.ensures.nothing

pub returns-in_err-after-clause-beginning : goal.returns-in_err-after-clause-beginning
returns-in_err-after-clause-beginning g c = nothing_written (g.S.Sink.bytes c.args.sink.now) (chart_text c.args.image.now c.args.names.now c.args.schedule.now c.args.bound)

pub returns-in_err-cells-clause-beginning : goal.returns-in_err-cells-clause-beginning
returns-in_err-cells-clause-beginning g c = nothing_written (g.S.Sink.bytes c.args.sink.now) (chart_text c.args.image.now c.args.names.now c.args.schedule.now c.args.bound)

pub returns-in_err-times-clause-beginning : goal.returns-in_err-times-clause-beginning
returns-in_err-times-clause-beginning g c = nothing_written (g.S.Sink.bytes c.args.sink.now) (chart_text c.args.image.now c.args.names.now c.args.schedule.now c.args.bound)
