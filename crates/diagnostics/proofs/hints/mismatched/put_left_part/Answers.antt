use Rattle.std.specs.Prelude.{codes}
use Rattle.diagnostics.specs.hints.Mismatched.{left_part, type_text}
use Rattle.diagnostics.proofs.Pieces.{two_pieces}
use Rattle.diagnostics.proofs.hints.mismatched.put_left_part.Goals as goal

pub returns : goal.returns
unfolding left_part
returns c =
    two_pieces c.args.out.now.items _ _ (codes "left operand: ") (type_text c.args.text.now c.args.list.now c.args.left) c.in_ok-extend_from_slice.ensures.items
    c.in_ok-put_type.ensures
