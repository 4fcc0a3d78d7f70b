use Rattle.std.proofs.Common.{◌∙◌, sym, take}
use Rattle.std.specs.Cmp.Lexicographic.{bytes_decides}
use Rattle.choices.proofs.choice.are_alike_before.Goals as goal

pub returns : goal.returns
returns c = λ e. (bytes_decides (take c.args.front c.args.places.now) (take c.args.front c.args.others.now)).0 (sym c.eq.ensures ∙ e)
