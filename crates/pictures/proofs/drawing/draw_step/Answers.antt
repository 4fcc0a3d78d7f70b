use Rattle.std.proofs.Common.{rules, ◌≡◌, ◌∙◌, ◌++◌, ap, of_z, sym, to_z, w64}
use Rattle.std.specs.Prelude.{unsigned_abs}
use Rattle.tasking.specs.Held.{kernel_of}
use Rattle.pictures.specs.Text.{picture_names}
use Rattle.pictures.proofs.Drawn.{step_parts}
use Rattle.pictures.proofs.Pieces.{two}
use Rattle.pictures.proofs.drawing.draw_step.Goals as goal

pub returns : goal.returns
returns g c =
    let k = kernel_of c.args.before.now.tasking in
    let l = kernel_of c.args.after.now.tasking in
    let text = c.args.text.now.items in
    let before : to_z w64 (of_z w64 c.now-since.result) ≡ c.now-since.result = search rules in
    let after : to_z w64 (of_z w64 c.now-now.result) ≡ c.now-now.result = search rules in
    let from = before ∙ c.now-since.ensures in
    let to = after ∙ c.now-now.ensures in
    let here = c.unsigned_abs-here.ensures.value ∙ ap unsigned_abs from in
    let there = c.unsigned_abs-there.ensures.value ∙ ap unsigned_abs to in
    let runs = sym c.actor.ensures ∙ c.in-Some.is in
    let until = c.as_slice.ensures.value ∙ c.until_clock-until.ensures in
    let since = c.as_slice-2.ensures.value ∙ c.since_clock-later.ensures in
    let parts = step_parts c.args.frame (picture_names c.args.image.now c.args.names.now) c.args.lines.now c.args.calls.now c.args.ahead k l c.args.step c.args.shown.now c.in-Some.ran _ _ _ _ _ _ _
    runs here there from to until since in
    two text _ _ _ _ (two text _ _ _ _ (two text _ _ _ _ c.in_ok-add_reported.ensures c.in_ok-add_events.ensures) c.in_ok-add_inputs.ensures) c.in_ok-add_events-2.ensures
    ∙ ap (λ v. text ++ v) parts
