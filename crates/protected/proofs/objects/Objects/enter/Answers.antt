use Rattle.std.proofs.Common.{arith, length, ap, sym, subst, ◌++◌, ◌∷◌, [], ◌<◌, ◌≤◌, ◌∙◌}
use Rattle.base.specs.declared.limits.TheConstants.{TASKS}
use Rattle.protected.specs.Actions.{opened_by, row_of}
use Rattle.protected.proofs.Lists.{carried, kept_put, none_open, one_more, opened_kept, put_view, room, row_low}
use Rattle.protected.proofs.objects.Objects.enter.Goals as goal

pub bounds-self-inside-row_of : goal.bounds-self-inside-row_of
bounds-self-inside-row_of c =
    let few = subst (λ a. length a.bases ≤ TASKS) c.self.view_is c.self.invariant.tasks in
    let low = row_low c.args.task (length c.args.self.now.bases) c.requires.task few in
    omega (arith, low, c.row_of.ensures)

pub push-requires : goal.push-requires
push-requires c =
    let o = c.self.inside in
    let a = c.args.self.now in
    let both = opened_kept (λ l. l.items) o.bases.items o.ceilings.items o.opened o.queued a c.row_of.result c.args.task c.index-self-row_of.result c.self.view_is c.self.invariant
    c.row_of.ensures c.requires.task in (
      omega arith,
      rw both.0 (room (length a.ceilings) c.args.object (opened_by a c.args.task) (both.1.opened_are (row_of c.args.task)) both.1.objects c.requires.object
          (none_open a c.args.task c.args.object c.requires.allowed)),
    )

pub invariant_of-self : goal.invariant_of-self
invariant_of-self c =
    let o = c.self.inside in
    let a = c.args.self.now in
    let both = opened_kept (λ l. l.items) o.bases.items o.ceilings.items o.opened o.queued a c.row_of.result c.args.task c.index-self-row_of.result c.self.view_is c.self.invariant
    c.row_of.ensures c.requires.task in
    kept_put (λ l. l.items) o.bases.items o.ceilings.items o.opened o.queued c.row_of.result _ c.self.invariant
    (subst (λ n. n < 66) (sym c.row_of.ensures) (row_low c.args.task (length a.bases) c.requires.task both.1.tasks))
    (carried (length a.ceilings) (length o.ceilings.items) (opened_by a c.args.task ++ c.args.object ∷ []) c.push.new.self.items
    (one_more (length a.ceilings) c.args.object (opened_by a c.args.task) (both.1.opened_are (row_of c.args.task)) c.requires.object
    (none_open a c.args.task c.args.object c.requires.allowed))
    (ap (λ v. length v.ceilings) c.self.view_is) (c.push.ensures.items ∙ ap (λ l. l ++ c.args.object ∷ []) both.0))

pub returns-clause-opened : goal.returns-clause-opened
returns-clause-opened c =
    let o = c.self.inside in
    let a = c.args.self.now in
    let both = opened_kept (λ l. l.items) o.bases.items o.ceilings.items o.opened o.queued a c.row_of.result c.args.task c.index-self-row_of.result c.self.view_is c.self.invariant
    c.row_of.ensures c.requires.task in
    put_view (λ l. l.items) o.bases.items o.ceilings.items o.opened o.queued c.row_of.result c.args.task _ _ a c.self.view_is c.row_of.ensures
    (c.push.ensures.items ∙ ap (λ l. l ++ c.args.object ∷ []) both.0)

pub returns-clause-room : goal.returns-clause-room
returns-clause-room c =
    let o = c.self.inside in
    let a = c.args.self.now in
    let both = opened_kept (λ l. l.items) o.bases.items o.ceilings.items o.opened o.queued a c.row_of.result c.args.task c.index-self-row_of.result c.self.view_is c.self.invariant
    c.row_of.ensures c.requires.task in
    room (length a.ceilings) c.args.object (opened_by a c.args.task) (both.1.opened_are (row_of c.args.task)) both.1.objects c.requires.object
    (none_open a c.args.task c.args.object c.requires.allowed)
