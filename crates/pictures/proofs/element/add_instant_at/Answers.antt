use Rattle.std.proofs.Common.{◌∙◌, ◌++◌, ◌-◌}
use Rattle.pictures.specs.Text.{instant_label, instant_line}
use Rattle.pictures.proofs.Pieces.{two}
use Rattle.pictures.proofs.element.add_instant_at.Goals as goal

pub returns : goal.returns
returns c =
    two c.args.text.now.items _ _ _ _ c.in_ok-add_instant_line.ensures c.in_ok-add_instant_label.ensures
    ∙ (λ j. c.args.text.now.items
    ++ (instant_line c.args.x (c.top-top.ensures.is j) (c.bottom-bottom.ensures.is j) ++ instant_label c.args.x (c.top-top.ensures.is j - 40) c.args.time))
