use Rattle.std.proofs.Common.{◌∙◌, ◌++◌, ◌-◌}
use Rattle.pictures.specs.Front.{heading_text, opening_text, part_text}
use Rattle.pictures.specs.Text.{instant_text, picture_names}
use Rattle.pictures.specs.declared.frame.Axis.TheVariants.{Time, Steps}
use Rattle.pictures.proofs.Pieces.{two}
use Rattle.pictures.proofs.front.add_front.Goals as goal

pub returns : goal.returns
returns c =
    let text = c.args.text.now.items in
    let names = picture_names c.args.image.now c.args.names.now in
    let style = two text _ _ _ _ c.in_ok-add_opening.ensures c.in_ok-extend_from_slice.ensures.items in
    let first = two text _ _ _ _ style c.in_ok-add_part.ensures in
    let second = two text _ _ _ _ (two text _ _ _ _ first c.in_ok-add_heading.ensures) c.in_ok-add_part-2.ensures in
    two text _ _ _ _ second c.in_ok-add_instant.ensures
    ∙ (λ j. text
    ++ (opening_text (c.height.ensures.is j) ++ c.as_bytes.ensures.value j ++ part_text c.args.frame names Time ++ heading_text (c.top-heading.ensures.is j - 700) c.args.frame.steps
    ++ part_text c.args.frame names Steps ++ instant_text c.args.frame 0 0))
