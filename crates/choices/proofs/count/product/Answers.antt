use Rattle.std.proofs.Common.{arith, rules, ◌≡◌, ◌<◌, get_or, length}
use Rattle.choices.proofs.Counting.{carry_small, making_at, making_done}
use Rattle.choices.proofs.count.product.Goals as goal

pub loop-digit-preserved : goal.loop-digit-preserved
loop-digit-preserved c =
    let less : c.loop-digit.digit-index < length c.args.row.now = omega arith in
    let digit : c.from.result ≡ get_or c.args.row.now c.loop-digit.digit-index 0 = search rules in (
      carry_small c.from.result c.args.factor c.loop-digit.carry (omega arith) (omega arith) c.loop-digit.invariant.0,
      λ n is.
          making_at c.args.row.now c.loop-digit.made.items c.push.new.self.items c.loop-digit.digit-index c.from.result c.args.factor c.loop-digit.carry n less digit
          c.requires c.in_ok-push.ensures.items (c.loop-digit.invariant.1 n is),
    )

pub returns : goal.returns
returns c = λ n is.
    making_done c.args.row.now c.loop-digit.made.items c.push_digits.new.row.items c.loop-digit.digit-index c.args.factor c.loop-digit.carry n (omega arith)
    c.in_ok-push_digits.ensures (c.loop-digit.invariant.1 n is)
