use Rattle.std.proofs.Common.{◌≡◌, ◌<◌, Some, subst, length, take, ◌-◌, ap, sym, ◌∙◌}
use Rattle.protected.specs.Actions.{innermost_of, opened_by}
use Rattle.std.specs.Prelude.{set}
use Rattle.tasking.specs.Held.{index_in, kinds_at}
use Rattle.tasking.proofs.Moves.{lent_kept, lent_same, seen}
use Rattle.tasking.proofs.Objects.{closes_is, closes_kept, closes_none, innermost_split, row_in}
use Rattle.tasking.proofs.tasking.Tasking.closes.Goals as goal

pub close-requires-clause-innermost : goal.close-requires-clause-innermost
close-requires-clause-innermost g c =
    let n = c.told-number.result in
    let some = subst (λ t. Some c.in-Some.object ≡ innermost_of (opened_by t.objects n)) (c.deref.ensures ∙ sym c.deref_mut-tables.ensures.value) c.in-Some.ensures.same in
    innermost_split (opened_by c.deref_mut-tables.result.now.objects n) c.in-Some.object (sym some)

pub close_kind-requires-clause-there : goal.close_kind-requires-clause-there
close_kind-requires-clause-there g c =
    let now = lent_same (seen c.self.view_is) c.deref_mut-tables.ensures.value c.self.view_is in
    let kept = lent_kept (seen c.self.view_is) c.deref_mut-tables.ensures.value c.self.invariant in
    let h = seen now in
    let t = c.args.task in
    let row = c.row-row.ensures.row ∙ ap (λ v. index_in v t) (sym now) in
    subst (λ n. n < length h.kinds) (sym row) (row_in h c.args.self.now now kept t c.requires c.told-number.result c.told-number.ensures.told)

pub invariant_of-self : goal.invariant_of-self
invariant_of-self g c =
    let now = lent_same (seen c.self.view_is) c.deref_mut-tables.ensures.value c.self.view_is in
    let kept = lent_kept (seen c.self.view_is) c.deref_mut-tables.ensures.value c.self.invariant in
    let h = seen now in
    let t = c.args.task in
    let row = c.row-row.ensures.row ∙ ap (λ v. index_in v t) (sym now) in
    closes_kept h c.args.self.now now kept t c.requires c.told-number.result c.told-number.ensures.told c.close.new.self _ c.close.ensures
    (c.close_kind.ensures ∙ ap (λ n. set h.kinds n (take (length (kinds_at h.kinds n) - 1) (kinds_at h.kinds n))) row)

pub returns-in-Some : goal.returns-in-Some
returns-in-Some g c =
    let now = lent_same (seen c.self.view_is) c.deref_mut-tables.ensures.value c.self.view_is in
    let kept = lent_kept (seen c.self.view_is) c.deref_mut-tables.ensures.value c.self.invariant in
    let h = seen now in
    let t = c.args.task in
    let n = c.told-number.result in
    let row = c.row-row.ensures.row ∙ ap (λ v. index_in v t) (sym now) in
    let some = subst (λ t. Some c.in-Some.object ≡ innermost_of (opened_by t.objects n)) (c.deref.ensures ∙ sym c.deref_mut-tables.ensures.value) c.in-Some.ensures.same in
    closes_is h c.args.self.now now kept t c.requires n c.told-number.ensures.told c.in-Some.object c.close.new.self _ some c.close.ensures
    (c.close_kind.ensures ∙ ap (λ n. set h.kinds n (take (length (kinds_at h.kinds n) - 1) (kinds_at h.kinds n))) row)

pub returns-in_default : goal.returns-in_default
returns-in_default g c =
    let now = lent_same (seen c.self.view_is) c.deref.ensures c.self.view_is in
    let kept = lent_kept (seen c.self.view_is) c.deref.ensures c.self.invariant in
    closes_none (seen now) c.args.self.now now kept c.args.task c.requires c.told-number.result c.told-number.ensures.told c.in_default.ensures.same
