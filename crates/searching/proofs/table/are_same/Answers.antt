use Rattle.std.proofs.Common.{◌∙◌, sym}
use Rattle.std.specs.Cmp.Rules.{signed_items}
use Rattle.searching.proofs.table.are_same.Goals as goal

pub returns : goal.returns
returns c = λ e. (signed_items c.args.values.now c.args.others.now).0 (sym c.eq.ensures ∙ e)
