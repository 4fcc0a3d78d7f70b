use Rattle.pictures.proofs.Pieces.{two}
use Rattle.pictures.proofs.front.add_opening.Goals as goal

pub returns : goal.returns
returns c =
    let text = c.args.text.now.items in
    let height = two text _ _ _ _ c.in_ok-extend_from_slice.ensures.items c.in_ok-add_number.ensures in
    let tenth = two text _ _ _ _ (two text _ _ _ _ height c.in_ok-extend_from_slice-2.ensures.items) c.in_ok-add_number-2.ensures in
    two text _ _ _ _ tenth c.in_ok-extend_from_slice-3.ensures.items
