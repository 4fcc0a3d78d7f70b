use Rattle.std.proofs.Common.{◌-◌, length, slice_get, ap, refl, ◌∙◌}
use Rattle.tasking.proofs.Objects.{kinds_here}
use Rattle.tasking.proofs.action_kinds.innermost_kind.Goals as goal

pub returns : goal.returns
returns c =
    c.copied.ensures ∙ (c.last.ensures.value
    ∙ ap (λ l. slice_get l (length l - 1)) (c.deref.ensures.0
    ∙ kinds_here (λ l. l.items) c.args.kinds.now c.args.row c.args.row refl c.requires.there c.index-kinds-row.result))
