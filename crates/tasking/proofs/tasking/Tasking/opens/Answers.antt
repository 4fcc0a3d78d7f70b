use Rattle.std.proofs.Common.{◌<◌, length, subst, arith, ◌++◌, ◌∷◌, [], ap, sym, ◌∙◌}
use Rattle.std.specs.Prelude.{set}
use Rattle.tasking.specs.Held.{index_in, kinds_at}
use Rattle.tasking.proofs.Moves.{lent_kept, lent_same, seen}
use Rattle.tasking.proofs.Objects.{allowed, opens_is, opens_kept, paired_now, row_in}
use Rattle.tasking.proofs.tasking.Tasking.opens.Goals as goal

pub enter-requires-clause-allowed : goal.enter-requires-clause-allowed
enter-requires-clause-allowed g c =
    let now = lent_same (seen c.self.view_is) c.deref_mut-tables.ensures.value c.self.view_is in
    let kept = lent_kept (seen c.self.view_is) c.deref_mut-tables.ensures.value c.self.invariant in
    allowed (seen now) c.args.self.now now kept c.args.task c.requires.task c.told-number.result c.told-number.ensures.told
    c.args.object c.requires.allowed

pub open_kind-requires-clause-there : goal.open_kind-requires-clause-there
open_kind-requires-clause-there g c =
    let now = lent_same (seen c.self.view_is) c.deref_mut-tables.ensures.value c.self.view_is in
    let kept = lent_kept (seen c.self.view_is) c.deref_mut-tables.ensures.value c.self.invariant in
    let h = seen now in
    let t = c.args.task in
    let row = c.row-row.ensures.row ∙ ap (λ v. index_in v t) (sym now) in
    subst (λ n. n < length h.kinds) (sym row) (row_in h c.args.self.now now kept t c.requires.task c.told-number.result c.told-number.ensures.told)

pub open_kind-requires-clause-room : goal.open_kind-requires-clause-room
open_kind-requires-clause-room g c =
    let now = lent_same (seen c.self.view_is) c.deref_mut-tables.ensures.value c.self.view_is in
    let kept = lent_kept (seen c.self.view_is) c.deref_mut-tables.ensures.value c.self.invariant in
    let h = seen now in
    let t = c.args.task in
    let row = c.row-row.ensures.row ∙ ap (λ v. index_in v t) (sym now) in
    let same = paired_now h c.args.self.now now kept t c.requires.task c.told-number.result c.told-number.ensures.told in
    let here = ap (λ n. length (kinds_at h.kinds n)) row in
    let room = c.enter.ensures.room in
    omega (arith, same, here, room)

pub invariant_of-self : goal.invariant_of-self
invariant_of-self g c =
    let now = lent_same (seen c.self.view_is) c.deref_mut-tables.ensures.value c.self.view_is in
    let kept = lent_kept (seen c.self.view_is) c.deref_mut-tables.ensures.value c.self.invariant in
    let h = seen now in
    let t = c.args.task in
    let row = c.row-row.ensures.row ∙ ap (λ v. index_in v t) (sym now) in
    opens_kept h c.args.self.now now kept t c.requires.task c.told-number.result c.told-number.ensures.told c.args.object c.args.kind
    c.enter.new.self _ c.enter.ensures.room c.enter.ensures.opened
    (c.open_kind.ensures ∙ ap (λ n. set h.kinds n (kinds_at h.kinds n ++ c.args.kind ∷ [])) row)

pub returns : goal.returns
returns g c =
    let now = lent_same (seen c.self.view_is) c.deref_mut-tables.ensures.value c.self.view_is in
    let kept = lent_kept (seen c.self.view_is) c.deref_mut-tables.ensures.value c.self.invariant in
    let h = seen now in
    let t = c.args.task in
    let row = c.row-row.ensures.row ∙ ap (λ v. index_in v t) (sym now) in
    opens_is h c.args.self.now now kept t c.requires.task c.told-number.result c.told-number.ensures.told c.args.object c.args.kind
    c.enter.new.self _ c.enter.ensures.opened
    (c.open_kind.ensures ∙ ap (λ n. set h.kinds n (kinds_at h.kinds n ++ c.args.kind ∷ [])) row)
