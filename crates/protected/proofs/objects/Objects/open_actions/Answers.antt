use Rattle.std.proofs.Common.{arith, length, map, ap, refl, subst, ◌≤◌, ◌∙◌}
use Rattle.base.specs.declared.limits.TheConstants.{TASKS}
use Rattle.protected.specs.Actions.{row_of}
use Rattle.protected.proofs.Lists.{known_here, opened_at, row_low}
use Rattle.protected.proofs.objects.Objects.open_actions.Goals as goal

pub bounds-self-inside-row_of : goal.bounds-self-inside-row_of
bounds-self-inside-row_of c =
    let few = subst (λ a. length a.bases ≤ TASKS) c.self.view_is c.self.invariant.tasks in
    let low = row_low c.args.task (length c.args.self.now.bases) c.requires few in
    omega (arith, low, c.row_of.ensures)

pub returns-clause-known : goal.returns-clause-known
returns-clause-known c =
    let o = c.self.inside in
    let seen = map (λ l. l.items) o.opened in
    known_here (length o.ceilings.items) _ _ c.as_slice.result.now (c.self.invariant.opened_are (row_of c.args.task))
    (c.as_slice.ensures.value ∙ opened_at (λ l. l.items) o.opened seen c.row_of.result (row_of c.args.task) _ refl c.row_of.ensures
    (let low = row_low c.args.task (length c.args.self.now.bases) c.requires (subst (λ a. length a.bases ≤ TASKS) c.self.view_is c.self.invariant.tasks) in
    omega (arith, low, c.self.invariant.rows)))
    (ap (λ a. length a.ceilings) c.self.view_is)
