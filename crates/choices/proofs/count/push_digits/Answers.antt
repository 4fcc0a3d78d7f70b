use Rattle.std.proofs.Common.{◌++◌, ◌/◌, ◌∙◌}
use Rattle.std.proofs.Common.{ap}
use Rattle.choices.specs.Counting.{row_of}
use Rattle.choices.proofs.Counting.{push_more}
use Rattle.choices.proofs.count.push_digits.Goals as goal

pub loop-left-preserved : goal.loop-left-preserved
loop-left-preserved c =
    ap (λ l. l ++ row_of (c.loop-left.left / 10)) c.in_ok-push.ensures.items
    ∙ push_more c.loop-left.row.items c.args.row.now.items c.args.number c.loop-left.left c.loop-left.invariant c.loop-left-test.true
