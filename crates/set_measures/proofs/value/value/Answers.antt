use Rattle.std.proofs.Common.{◌≡◌, ◌∙◌, Some, None, true, ap, cond, rules, sym}
use Rattle.std.specs.Prelude.{nat_lt}
use Rattle.base.specs.declared.limits.TheConstants.{OBJECTS}
use Rattle.measuring.specs.Measures.{usage_measures}
use Rattle.measuring.specs.Runs.{calls, instants, stories, usages}
use Rattle.set_measures.specs.Quantities.{object_value, usage_value, value_of, value_of_actor}
use Rattle.set_measures.proofs.value.value.Goals as goal

pub returns-in-OfActor : goal.returns-in-OfActor
returns-in-OfActor c r measured =
    let i = c.args.image.now in
    let n = r.bound.steps in
    let of_run = c.actor-measured.ensures (stories i r.schedule n) (calls i r.schedule n) (usages i r.schedule n) (instants i r.schedule n) measured in
    let blocks = c.blocking-blocking.ensures (stories i r.schedule n) (calls i r.schedule n) (usages i r.schedule n) (instants i r.schedule n) measured in
    c.value_of_actor.ensures ∙ (λ j. value_of_actor i c.in-OfActor.actor (blocks j) (of_run j) c.in-OfActor.quantity) ∙ ap (value_of i r) (sym c.in-OfActor.is)

pub returns-in-OfObject : goal.returns-in-OfObject
returns-in-OfObject c r measured =
    let i = c.args.image.now in
    let n = r.bound.steps in
    let of_run = c.object.ensures (stories i r.schedule n) (calls i r.schedule n) (usages i r.schedule n) (instants i r.schedule n) measured in
    ap Some (c.object_value.ensures ∙ ap (λ x. object_value x c.in-OfObject.quantity) of_run) ∙ ap (value_of i r) (sym c.in-OfObject.is)

pub returns-then-from-lt-OBJECTS : goal.returns-then-from-lt-OBJECTS
returns-then-from-lt-OBJECTS c r measured =
    let i = c.args.image.now in
    let n = r.bound.steps in
    let o = c.in-OfUsage.object in
    let of_run = c.usage.ensures (stories i r.schedule n) (calls i r.schedule n) (usages i r.schedule n) (instants i r.schedule n) measured in
    let there : nat_lt o OBJECTS ≡ true = search rules in
    let value = usage_value (usage_measures (usages i r.schedule n c.in-OfUsage.actor o)) c.in-OfUsage.quantity in
    ap Some (c.usage_value.ensures ∙ ap (λ x. usage_value x c.in-OfUsage.quantity) of_run) ∙ sym (ap (λ b. cond b (Some value) None) there)
    ∙ ap (value_of i r) (sym c.in-OfUsage.is)

pub returns-in-OfInstants : goal.returns-in-OfInstants
returns-in-OfInstants c r measured =
    let i = c.args.image.now in
    let n = r.bound.steps in
    let of_run = c.instants.ensures (stories i r.schedule n) (calls i r.schedule n) (usages i r.schedule n) (instants i r.schedule n) measured in
    ap (λ x. Some x.most) of_run ∙ ap (value_of i r) (sym c.in-OfInstants.is)
