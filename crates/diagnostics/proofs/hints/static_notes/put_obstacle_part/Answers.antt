use Rattle.std.proofs.Common.{◌++◌, ◌∙◌, ap}
use Rattle.std.specs.Prelude.{codes}
use Rattle.diagnostics.specs.hints.StaticNotes.{obstacle_part}
use Rattle.diagnostics.specs.hints.Stopped.{named_place}
use Rattle.diagnostics.proofs.Pieces.{two_pieces}
use Rattle.diagnostics.proofs.hints.static_notes.put_obstacle_part.Goals as goal

pub returns : goal.returns
unfolding obstacle_part
returns c =
    two_pieces c.args.out.now.items _ _ (codes "not static: ") (named_place c.args.text.now c.args.list.now c.args.place) c.in_ok-extend_from_slice.ensures.items
    (c.in_ok-put_named_place.ensures ∙ ap (λ ts. c.extend_from_slice.new.self.items ++ named_place c.args.text.now ts c.args.place) c.tokens.ensures.same)
