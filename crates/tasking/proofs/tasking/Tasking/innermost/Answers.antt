use Rattle.std.proofs.Common.{◌<◌, subst, length, slice_get, ap, sym, ◌-◌, ◌∙◌}
use Rattle.tasking.specs.Held.{index_in, kinds_at, some_action}
use Rattle.tasking.proofs.Moves.{lent_kept, lent_same, seen}
use Rattle.tasking.proofs.Objects.{innermost_none, innermost_seen, kind_none, row_in}
use Rattle.tasking.proofs.tasking.Tasking.innermost.Goals as goal

pub innermost_kind-requires-clause-there : goal.innermost_kind-requires-clause-there
innermost_kind-requires-clause-there g c =
    let now = lent_same (seen c.self.view_is) c.deref-tables.ensures c.self.view_is in
    let kept = lent_kept (seen c.self.view_is) c.deref-tables.ensures c.self.invariant in
    let h = seen now in
    let t = c.args.task in
    let row = c.row.ensures.row ∙ ap (λ v. index_in v t) (sym now) in
    subst (λ n. n < length h.kinds) (sym row) (row_in h c.args.self.now now kept t c.requires c.told.result c.told.ensures.told)

pub returns-clause-action : goal.returns-clause-action
returns-clause-action g c =
    let now = lent_same (seen c.self.view_is) c.deref-tables.ensures c.self.view_is in
    let kept = lent_kept (seen c.self.view_is) c.deref-tables.ensures c.self.invariant in
    let h = seen now in
    let t = c.args.task in
    let row = c.row.ensures.row ∙ ap (λ v. index_in v t) (sym now) in
    innermost_seen h c.args.self.now now kept t c.requires c.told.result c.told.ensures.told c.in_ok-object.object c.in_ok-kind.kind
    c.in_ok-object.ensures.same
    (c.in_ok-kind.ensures ∙ ap (λ n. slice_get (kinds_at h.kinds n) (length (kinds_at h.kinds n) - 1)) row)

pub returns-in_err-object-clause-action : goal.returns-in_err-object-clause-action
returns-in_err-object-clause-action g c =
    let now = lent_same (seen c.self.view_is) c.deref-tables.ensures c.self.view_is in
    let kept = lent_kept (seen c.self.view_is) c.deref-tables.ensures c.self.invariant in
    ap some_action c.from_residual.ensures
    ∙ innermost_none (seen now) c.args.self.now now kept c.args.task c.requires c.told.result c.told.ensures.told
    c.in_err-object.ensures.same

pub returns-in_err-kind-clause-action : goal.returns-in_err-kind-clause-action
returns-in_err-kind-clause-action g c =
    let now = lent_same (seen c.self.view_is) c.deref-tables.ensures c.self.view_is in
    let kept = lent_kept (seen c.self.view_is) c.deref-tables.ensures c.self.invariant in
    let h = seen now in
    let t = c.args.task in
    let row = c.row.ensures.row ∙ ap (λ v. index_in v t) (sym now) in
    ap some_action c.from_residual-in_err-kind.ensures
    ∙ kind_none h c.args.self.now now kept t c.requires c.told.result c.told.ensures.told
    (c.in_err-kind.ensures ∙ ap (λ n. slice_get (kinds_at h.kinds n) (length (kinds_at h.kinds n) - 1)) row)
