use Rattle.std.proofs.Common.{◌-◌, length, take, ap, refl, ◌∙◌}
use Rattle.tasking.proofs.Objects.{kinds_here, kinds_put}
use Rattle.tasking.proofs.action_kinds.close_kind.Goals as goal

pub returns : goal.returns
returns c =
    kinds_put (λ l. l.items) c.args.kinds.now c.args.row c.args.row refl c.requires.there _ _
    (c.pop.ensures.rest ∙ ap (λ l. take (length l - 1) l) (kinds_here (λ l. l.items) c.args.kinds.now c.args.row c.args.row refl c.requires.there c.index-kinds-row.result))
