use Rattle.std.proofs.Common.{◌∙◌, ◌++◌}
use Rattle.pictures.specs.Front.{tick_label, tick_line, tick_name}
use Rattle.pictures.proofs.Pieces.{two}
use Rattle.pictures.proofs.front.add_tick.Goals as goal

pub returns : goal.returns
returns c =
    let text = c.args.text.now.items in
    two text _ _ _ _ c.in_ok-add_tick_line.ensures c.in_ok-add_tick_name.ensures
    ∙ (λ j. text ++ (tick_line (c.x-x.ensures j) (c.top.ensures.is j) (c.bottom.ensures.is j) ++ tick_name (c.x-x.ensures j) (c.label_y.ensures j) (tick_label c.args.axis c.args.at)))
