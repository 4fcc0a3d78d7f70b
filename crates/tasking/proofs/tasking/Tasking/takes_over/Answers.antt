use Rattle.std.proofs.Common.{◌<◌, subst, length, take, ◌++◌, ◌∷◌, [], ◌-◌, ap, refl, sym, ◌∙◌}
use Rattle.std.specs.Prelude.{set}
use Rattle.kernel.specs.Interrupts.{told}
use Rattle.tasking.specs.declared.reports.Kind.TheVariants as kinds
use Rattle.tasking.specs.Held.{index_in, kernel_of, kinds_at}
use Rattle.tasking.proofs.Moves.{lent_kept, lent_same, seen}
use Rattle.tasking.proofs.Objects.{row_in, service_room, takes_is, takes_kept}
use Rattle.tasking.proofs.tasking.Tasking.takes_over.Goals as goal

pub serve_kind-requires-clause-there : goal.serve_kind-requires-clause-there
serve_kind-requires-clause-there g c =
    let now = lent_same (seen c.self.view_is) c.deref_mut-tables.ensures.value c.self.view_is in
    let kept = lent_kept (seen c.self.view_is) c.deref_mut-tables.ensures.value c.self.invariant in
    let h = seen now in
    let t = c.args.task in
    let row = c.row-row.ensures.row ∙ ap (λ v. index_in v t) (sym now) in
    let number = told (kernel_of c.args.self.now).partition t in
    subst (λ n. n < length h.kinds) (sym row) (row_in h c.args.self.now now kept t c.requires.task number refl)

pub serve_kind-requires-clause-room : goal.serve_kind-requires-clause-room
serve_kind-requires-clause-room g c =
    let now = lent_same (seen c.self.view_is) c.deref_mut-tables.ensures.value c.self.view_is in
    let kept = lent_kept (seen c.self.view_is) c.deref_mut-tables.ensures.value c.self.invariant in
    let h = seen now in
    let t = c.args.task in
    let row = c.row-row.ensures.row ∙ ap (λ v. index_in v t) (sym now) in
    let number = told (kernel_of c.args.self.now).partition t in
    service_room h c.args.self.now now kept t c.requires.task number refl c.args.object c.args.caller c.requires.innermost
    c.requires.caller c.requires.object _ (ap (λ n. take (length (kinds_at h.kinds n) - 1) (kinds_at h.kinds n)) row)

pub invariant_of-self : goal.invariant_of-self
invariant_of-self g c =
    let now = lent_same (seen c.self.view_is) c.deref_mut-tables.ensures.value c.self.view_is in
    let kept = lent_kept (seen c.self.view_is) c.deref_mut-tables.ensures.value c.self.invariant in
    let h = seen now in
    let t = c.args.task in
    let row = c.row-row.ensures.row ∙ ap (λ v. index_in v t) (sym now) in
    let number = told (kernel_of c.args.self.now).partition t in
    takes_kept h c.args.self.now now kept t c.requires.task number refl c.args.object c.args.caller c.requires.innermost c.requires.caller
    c.requires.object
    c.from.result c.to_serve.new.self _ c.from.ensures c.to_serve.ensures.left
    (c.serve_kind.ensures ∙ ap (λ n. set h.kinds n (take (length (kinds_at h.kinds n) - 1) (kinds_at h.kinds n) ++ kinds.Serves c.args.caller ∷ [])) row)

pub returns : goal.returns
returns g c =
    let now = lent_same (seen c.self.view_is) c.deref_mut-tables.ensures.value c.self.view_is in
    let kept = lent_kept (seen c.self.view_is) c.deref_mut-tables.ensures.value c.self.invariant in
    let h = seen now in
    let t = c.args.task in
    let row = c.row-row.ensures.row ∙ ap (λ v. index_in v t) (sym now) in
    let number = told (kernel_of c.args.self.now).partition t in
    takes_is h c.args.self.now now kept t c.requires.task number refl c.args.object c.args.caller c.requires.innermost c.requires.caller
    c.requires.object
    c.from.result c.to_serve.new.self _ c.from.ensures c.to_serve.ensures.left
    (c.serve_kind.ensures ∙ ap (λ n. set h.kinds n (take (length (kinds_at h.kinds n) - 1) (kinds_at h.kinds n) ++ kinds.Serves c.args.caller ∷ [])) row)
