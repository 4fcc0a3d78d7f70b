use Rattle.std.proofs.Common.{◌+◌, Some, None, arith, ap, get_or, length, map, subst, sym, ◌∙◌}
use Rattle.std.specs.Prelude.{int_lt}
use Rattle.tasking.specs.Held.{kernel_of}
use Rattle.tasking.specs.Orderly.{IsKeptOrderly}
use Rattle.tasking.proofs.Delivering.{begun_is, begun_kept, kinds_there, may_begin, no_kinds, object_first, object_known}
use Rattle.tasking.proofs.Moves.{lent_kept, lent_same, seen}
use Rattle.tasking.proofs.tasking.Tasking.begins.Goals as goal

pub unreachable-requires : goal.unreachable-requires
unreachable-requires g c =
    let o = object_first c.args.self.now.attached c.args.self.now.ahead c.args.rest.now c.args.line c.requires.first c.requires.attached in
    absurd (let some = c.object_of.ensures ∙ (ap (λ v. get_or v.attached c.args.line.channel None) c.self.view_is ∙ o.1) in let none = c.in_default.is in cc)

pub enter-requires-clause-object : goal.enter-requires-clause-object
enter-requires-clause-object g c =
    let now = lent_same (seen c.self.view_is) c.deref_mut-tables.ensures.value c.self.view_is in
    let kept = lent_kept (seen c.self.view_is) c.deref_mut-tables.ensures.value c.self.invariant in
    let h = seen now in
    object_known h c.args.self.now now kept c.requires.idle c.args.line c.args.rest.now c.in-Some.object
    (ap (λ v. v.ahead) now ∙ c.requires.first) (sym c.object_of.ensures ∙ c.in-Some.is)

pub enter-requires-clause-allowed : goal.enter-requires-clause-allowed
enter-requires-clause-allowed g c =
    let now = lent_same (seen c.self.view_is) c.deref_mut-tables.ensures.value c.self.view_is in
    let kept = lent_kept (seen c.self.view_is) c.deref_mut-tables.ensures.value c.self.invariant in
    let h = seen now in
    may_begin h c.args.self.now now kept c.requires.idle c.args.line c.args.rest.now c.in-Some.object
    (ap (λ v. v.ahead) now ∙ c.requires.first) (sym c.object_of.ensures ∙ c.in-Some.is)

pub open_kind-requires-clause-there : goal.open_kind-requires-clause-there
open_kind-requires-clause-there g c =
    let now = lent_same (seen c.self.view_is) c.deref_mut-tables.ensures.value c.self.view_is in
    let kept = lent_kept (seen c.self.view_is) c.deref_mut-tables.ensures.value c.self.invariant in
    let h = seen now in
    kinds_there h c.args.self.now now kept c.requires.idle c.args.line c.args.rest.now c.in-Some.object
    (ap (λ v. v.ahead) now ∙ c.requires.first) (sym c.object_of.ensures ∙ c.in-Some.is)

pub open_kind-requires-clause-room : goal.open_kind-requires-clause-room
open_kind-requires-clause-room g c =
    let now = lent_same (seen c.self.view_is) c.deref_mut-tables.ensures.value c.self.view_is in
    let kept = lent_kept (seen c.self.view_is) c.deref_mut-tables.ensures.value c.self.invariant in
    let h = seen now in
    let none = no_kinds h c.args.self.now now kept c.requires.idle c.args.line c.args.rest.now c.in-Some.object
    (ap (λ v. v.ahead) now ∙ c.requires.first) (sym c.object_of.ensures ∙ c.in-Some.is) in
    omega (arith, none)

pub invariant_of-self : goal.invariant_of-self
invariant_of-self g c =
    let now = lent_same (seen c.self.view_is) c.deref_mut-tables.ensures.value c.self.view_is in
    let kept = lent_kept (seen c.self.view_is) c.deref_mut-tables.ensures.value c.self.invariant in
    let h = seen now in
    let number = ap (λ n. n + c.args.line.channel) (c.task_count.ensures.same ∙ ap (λ v. length v.objects.bases) (sym now)) in
    subst IsKeptOrderly
    (λ j. record h { running = Some (sym number j); handler = Some (sym number j); objects = c.enter.new.self; kinds = map (λ l. l.items) c.open_kind.new.kinds; ahead = c.args.rest.now })
    (begun_kept h c.args.self.now now kept c.requires.idle c.args.line c.args.rest.now c.in-Some.object
    (ap (λ v. v.ahead) now ∙ c.requires.first) (sym c.object_of.ensures ∙ c.in-Some.is)
    c.enter.new.self _ c.enter.ensures.opened c.open_kind.ensures)

pub returns : goal.returns
returns g c =
    let now = lent_same (seen c.self.view_is) c.deref_mut-tables.ensures.value c.self.view_is in
    let kept = lent_kept (seen c.self.view_is) c.deref_mut-tables.ensures.value c.self.invariant in
    let h = seen now in
    let number = ap (λ n. n + c.args.line.channel) (c.task_count.ensures.same ∙ ap (λ v. length v.objects.bases) (sym now)) in
    (λ j. kernel_of (record h { running = Some (number j); handler = Some (number j); objects = c.enter.new.self; kinds = map (λ l. l.items) c.open_kind.new.kinds; ahead = c.args.rest.now }))
    ∙ begun_is h c.args.self.now now kept c.requires.idle c.args.line c.args.rest.now c.in-Some.object
    (ap (λ v. v.ahead) now ∙ c.requires.first) (sym c.object_of.ensures ∙ c.in-Some.is)
    c.enter.new.self _ c.enter.ensures.opened c.open_kind.ensures
    (ap (λ v. int_lt v.time c.args.line.time) now ∙ c.requires.due)
