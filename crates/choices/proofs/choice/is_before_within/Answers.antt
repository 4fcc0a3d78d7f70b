use Rattle.std.proofs.Common.{◌<◌, ◌≤◌, arith, get_or, length, rules}
use Rattle.choices.proofs.Raising.{before_at}
use Rattle.choices.proofs.choice.is_before_within.Goals as goal

pub returns-then-places-at : goal.returns-then-places-at
returns-then-places-at c =
    let at = c.loop-at.at in
    let less : get_or c.args.places.now at 0 < get_or c.args.others.now at 0 = search (rules, c.if-places-at.true) in
    let short : c.args.front ≤ length c.args.places.now = search (rules, c.if-places-front.false) in
    let long : c.args.front ≤ length c.args.others.now = search (rules, c.if-others-front.false) in
    let here = c.loop-at-test.true in
    λ e. before_at at c.args.front c.args.places.now c.args.others.now c.loop-at.invariant less here (omega (arith, here, short)) (omega (arith, here, long))
