use Rattle.std.proofs.Common.{rules, ◌≡◌, ◌∙◌, ◌+◌, ◌/◌, ◌++◌, ap, codes, length, of_z, to_z, w64}
use Rattle.base.specs.declared.limits.TheConstants.{CHANNELS}
use Rattle.measuring.specs.Text.{below}
use Rattle.charts.specs.Scales.{column}
use Rattle.charts.specs.Text.{heading, inputs_text, row_text, shown_actor, shown_object}
use Rattle.charts.proofs.text.text_of.Goals as goal

pub returns : goal.returns
returns c shown is =
    let last : to_z w64 (of_z w64 c.args.last) ≡ c.args.last = search rules in
    let at = c.column-last_column.ensures.is ∙ ap (column c.args.scale) last in
    let first = c.in_ok-add_inputs.ensures ∙ ap (λ v. v ++ inputs_text c.args.lines.now c.args.scale (to_z w64 (of_z w64 c.args.last)) (c.column-last_column.result + 1)) c.in_ok-text.ensures in
    let second = c.in_ok-add_row.ensures shown is ∙ ap (λ v. v ++ row_text (codes "v") (shown c.number.result) (c.column-last_column.result + 1) (codes "lines")) first in
    let third = c.in_ok-add_actors.ensures shown is ∙ ap (λ v. v ++ below (length c.args.image.now.tasks + (CHANNELS + 1)) (shown_actor c.args.image.now shown (c.column-last_column.result + 1))) second in
    let fourth = c.in_ok-add_objects.ensures shown is ∙ ap (λ v. v ++ below c.args.objects (shown_object c.args.names.now shown (c.column-last_column.result + 1))) third in
    fourth
    ∙ (λ j. heading c.args.scale (at j / 10 + 1)
    ++ inputs_text c.args.lines.now c.args.scale (last j) (at j + 1)
    ++ row_text (codes "v") (shown (c.number.ensures.is j)) (at j + 1) (codes "lines")
    ++ below (length c.args.image.now.tasks + (CHANNELS + 1)) (shown_actor c.args.image.now shown (at j + 1))
    ++ below (c.requires.objects j) (shown_object c.args.names.now shown (at j + 1)))
