use Rattle.std.specs.Prelude.{codes}
use Rattle.diagnostics.specs.hints.Places.{place_text}
use Rattle.diagnostics.specs.hints.StaticNotes.{if_part}
use Rattle.diagnostics.proofs.Pieces.{two_pieces}
use Rattle.diagnostics.proofs.hints.static_notes.put_if_part.Goals as goal

pub returns : goal.returns
unfolding if_part
returns c =
    two_pieces c.args.out.now.items _ _ (codes "not static: the if expression at ") (place_text c.args.text.now c.args.place) c.in_ok-extend_from_slice.ensures.items
    c.in_ok-put_place.ensures
