use Rattle.pictures.proofs.Pieces.{seven}
use Rattle.pictures.proofs.front.add_tick_name.Goals as goal

pub returns : goal.returns
returns c =
    seven c.args.text.now.items _ _ _ _ _ _ _ _ _ _ _ _ _ _ c.in_ok-extend_from_slice.ensures.items c.in_ok-add_place.ensures c.in_ok-extend_from_slice-2.ensures.items c.in_ok-add_number.ensures
    c.in_ok-extend_from_slice-3.ensures.items c.in_ok-add_tick_label.ensures c.in_ok-extend_from_slice-4.ensures.items
