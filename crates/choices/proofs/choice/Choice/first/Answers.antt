use Rattle.std.proofs.Common.{◌≡◌, ◌<◌, ◌≤◌, length, rules, subst, sym}
use Rattle.choices.specs.Places.{AreWithin, firsts}
use Rattle.choices.proofs.Lawful.{each_lawful}
use Rattle.choices.proofs.Order.{firsts_within}
use Rattle.choices.proofs.Taking.{firsts_done, firsts_more}
use Rattle.choices.proofs.choice.Choice.first.Goals as goal

pub loop-slots-preserved : goal.loop-slots-preserved
loop-slots-preserved c =
    let less : length c.loop-slots.places.items < length c.slots-slots.result.now = search (rules, c.loop-slots-test.true) in
    firsts_more c.loop-slots.places.items _ c.slots-slots.result.now c.in_ok-push.ensures.items less c.loop-slots.invariant.0

pub returns-clause-first : goal.returns-clause-first
returns-clause-first c =
    let le : length c.slots-slots.result.now ≤ length c.loop-slots.places.items = search (rules, c.loop-slots-test.false) in
    subst (λ s. c.loop-slots.places.items ≡ firsts s) c.slots-slots.ensures.same
    (firsts_done c.loop-slots.places.items c.slots-slots.result.now le c.loop-slots.invariant.0)

pub returns-clause-within : goal.returns-clause-within
returns-clause-within c =
    subst (AreWithin c.args.choices.now) (sym (returns-clause-first c)) (firsts_within c.args.choices.now (each_lawful c.args.choices.now c.slots-slots.ensures.lawful))
