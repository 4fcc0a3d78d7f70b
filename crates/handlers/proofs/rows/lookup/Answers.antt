use Rattle.std.proofs.Common.{◌≡◌, true, IfSome, arith, option_map, sym, ap, ◌∙◌, subst}
use Rattle.handlers.specs.Handlers.{LeadsWithin, are_within_one}
use Rattle.handlers.specs.Searching.{AreByWidth}
use Rattle.handlers.proofs.Searched.{leads}
use Rattle.handlers.proofs.rows.lookup.Goals as goal

pub returns-clause-within : goal.returns-clause-within
returns-clause-within g c =
    let all = subst (λ h. are_within_one h.ends h.rows ≡ true) c.table.view_is c.table.invariant.0 in
    let order = subst (λ h. AreByWidth h.rows c.table.inside.index) c.table.view_is c.table.invariant.1 in
    subst (λ o. IfSome o (LeadsWithin c.args.table.now c.args.place)) (ap (option_map (λ r. r.target)) (order.chosen c.args.place c.args.exception) ∙ sym c.target.ensures.target)
    (leads c.args.table.now c.args.place c.args.exception all)

pub returns-clause-places : goal.returns-clause-places
returns-clause-places g c =
    let order = subst (λ h. AreByWidth h.rows c.table.inside.index) c.table.view_is c.table.invariant.1 in
    let few = c.target.ensures.places in
    record { edges = few.edges; are = order.edged few.edges few.are; counts = few.counts }

pub returns-clause-exceptions : goal.returns-clause-exceptions
returns-clause-exceptions g c =
    let order = subst (λ h. AreByWidth h.rows c.table.inside.index) c.table.view_is c.table.invariant.1 in
    omega (arith, c.target.ensures.exceptions, order.many c.args.place)
