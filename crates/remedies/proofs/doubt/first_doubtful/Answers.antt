use Rattle.std.proofs.Common.{sym, ◌∙◌}
use Rattle.remedies.proofs.Searching.{goes_on}
use Rattle.remedies.proofs.doubt.first_doubtful.Goals as goal

pub loop-number-preserved : goal.loop-number-preserved
loop-number-preserved c =
    goes_on _ c.loop-number.number _ _ c.loop-number-test.true (sym c.is_doubtful.ensures ∙ c.if-is_doubtful.false) c.loop-number.invariant
