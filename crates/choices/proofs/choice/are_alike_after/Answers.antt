use Rattle.std.proofs.Common.{◌-◌, ◌∙◌, drop, length, rules, sym, take}
use Rattle.std.specs.Cmp.Lexicographic.{bytes_decides}
use Rattle.choices.proofs.Parts.{rest_whole}
use Rattle.choices.proofs.choice.are_alike_after.Goals as goal

pub returns : goal.returns
returns c = λ e.
    let front = c.args.front in
    let places = c.args.places.now in
    let others = c.args.others.now in (
      sym (rest_whole front places)
          ∙ ((bytes_decides (take (length places - front) (drop front places)) (take (length others - front) (drop front others))).0 (sym c.eq.ensures ∙ e)
          ∙ rest_whole front others),
      search (rules, c.if-places-front.false),
      search (rules, c.if-others-front.false),
    )
