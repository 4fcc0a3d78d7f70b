use Rattle.std.proofs.Common.{◌∙◌, ◌++◌, codes, decimal}
use Rattle.pictures.proofs.Pieces.{two}
use Rattle.pictures.proofs.element.add_path.Goals as goal

pub returns : goal.returns
returns c =
    let text = c.args.text.now.items in
    let class = two text _ _ _ _ c.in_ok-extend_from_slice.ensures.items c.in_ok-extend_from_slice-2.ensures.items in
    let x = two text _ _ _ _ (two text _ _ _ _ class c.in_ok-extend_from_slice-3.ensures.items) c.in_ok-add_place.ensures in
    let y = two text _ _ _ _ (two text _ _ _ _ x c.in_ok-extend_from_slice-4.ensures.items) c.in_ok-add_number.ensures in
    let outline = two text _ _ _ _ y c.in_ok-extend_from_slice-5.ensures.items in
    let title = two text _ _ _ _ (two text _ _ _ _ outline c.in_ok-extend_from_slice-6.ensures.items) c.in_ok-extend_from_slice-7.ensures.items in
    two text _ _ _ _ title c.in_ok-extend_from_slice-8.ensures.items
    ∙ (λ j. text
    ++ (codes "<path class=\"" ++ c.class.ensures j ++ codes "\" d=\"M" ++ decimal c.args.x ++ codes " " ++ decimal c.args.y ++ c.outline.ensures j ++ codes "\"><title>"
    ++ c.args.title.now ++ codes "</title></path>\n"))
