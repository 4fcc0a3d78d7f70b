use Rattle.std.proofs.Common.{◌++◌, ◌∷◌, [], ◌-◌, length, take, ap, refl, arith, ◌∙◌}
use Rattle.tasking.specs.declared.reports.Kind.TheVariants as kinds
use Rattle.tasking.proofs.Objects.{kinds_here, kinds_put}
use Rattle.tasking.proofs.action_kinds.serve_kind.Goals as goal

pub push-requires : goal.push-requires
push-requires c =
    let same = ap length (c.pop.ensures.rest ∙ ap (λ l. take (length l - 1) l) (kinds_here (λ l. l.items) c.args.kinds.now c.args.row c.args.row refl c.requires.there c.index-kinds-row.result)) in
    let room = c.requires.room in
    (omega arith, omega (arith, same, room))

pub returns : goal.returns
returns c =
    kinds_put (λ l. l.items) c.args.kinds.now c.args.row c.args.row refl c.requires.there _ _
    (c.push.ensures.items ∙ ap (λ l. l ++ kinds.Serves c.args.caller ∷ [])
    (c.pop.ensures.rest ∙ ap (λ l. take (length l - 1) l) (kinds_here (λ l. l.items) c.args.kinds.now c.args.row c.args.row refl c.requires.there c.index-kinds-row.result)))
