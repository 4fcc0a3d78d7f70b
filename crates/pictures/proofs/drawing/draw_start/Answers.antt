use Rattle.std.proofs.Common.{rules, ◌≡◌, ◌∙◌, ◌++◌, None, ap, of_z, to_z, w64}
use Rattle.std.specs.Prelude.{unsigned_abs}
use Rattle.tracing.specs.Traces.{lines_come}
use Rattle.pictures.specs.Drawn.{inputs_text}
use Rattle.pictures.specs.Text.{events_text, picture_names}
use Rattle.pictures.proofs.Pieces.{two}
use Rattle.pictures.proofs.drawing.draw_start.Goals as goal

pub returns : goal.returns
returns g c =
    let text = c.args.text.now.items in
    let f = c.args.frame in
    let fits : to_z w64 (of_z w64 c.now-now.result) ≡ c.now-now.result = search rules in
    let now = fits ∙ c.now-now.ensures in
    let time = c.unsigned_abs-time.ensures.value ∙ ap unsigned_abs now in
    let events = c.as_slice.ensures.value ∙ c.starts-events.ensures in
    two text _ _ _ _ c.in_ok-add_inputs.ensures c.in_ok-add_events.ensures
    ∙ (λ j. text ++ (inputs_text f 0 (lines_come None (now j) c.args.lines.now) ++ events_text f (picture_names c.args.image.now c.args.names.now) (time j) 0 (events j)))
