use Rattle.std.proofs.Common.{rules, ◌≡◌, ◌∙◌, None, Some, ap, of_z, subst, sym, to_z, w64}
use Rattle.tasking.specs.Held.{kernel_of}
use Rattle.charts.specs.Runs.{cells_by_step}
use Rattle.charts.specs.Scales.{column}
use Rattle.charts.specs.Signs.{Cells, of_actor, with_events, with_note}
use Rattle.charts.specs.Tables.{HoldsCells}
use Rattle.charts.specs.declared.cell.Sign.TheVariants as signs
use Rattle.charts.proofs.charting.note_step.Goals as goal

pub returns-clause-noted : goal.returns-clause-noted
returns-clause-noted g c shown is =
    let k = kernel_of c.args.before.now.tasking in
    let l = kernel_of c.args.after.now.tasking in
    let runs : Some c.in-Some.ran ≡ k.running = sym c.in-Some.is ∙ c.actor.ensures in
    let first : to_z w64 (of_z w64 c.now.result) ≡ c.now.result = search rules in
    let second : to_z w64 (of_z w64 c.now-2.result) ≡ c.now-2.result = search rules in
    let here = c.column-here.ensures.is ∙ ap (column c.args.scale) (first ∙ c.now.ensures) in
    let there = c.column-there.ensures.is ∙ ap (column c.args.scale) (second ∙ c.now-2.ensures) in
    let until = c.as_slice.ensures.value ∙ c.until_clock-until.ensures in
    let since = c.as_slice-2.ensures.value ∙ c.since_clock-since.ensures in
    let last = c.note_events-2.ensures.noted _ (c.note_events.ensures.noted _ (c.note-2.ensures.noted _ (c.note.ensures.noted shown is))) in
    subst (λ running. HoldsCells c.note_events-2.new.cells (cells_by_step c.args.scale c.args.calls.now c.args.ahead k l c.args.wrote None running shown)) runs
    (subst (λ (seen : Cells). HoldsCells c.note_events-2.new.cells seen)
    (λ j. with_events (there j) (since j) (with_events (here j) (until j) (with_note (here j) (c.line_note.ensures j) (with_note (here j) (of_actor c.in-Some.ran signs.Acts) shown))))
    last)
