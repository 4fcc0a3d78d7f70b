use Rattle.std.proofs.Common.{rules}
use Rattle.image.proofs.Placed.{all_placed-done, all_placed-failed, all_placed-passed}
use Rattle.image.proofs.draft.Draft.all_jumps_within.Goals as goal

pub loop-place-preserved : goal.loop-place-preserved
loop-place-preserved c =
    all_placed-passed _ _ _ _ c.loop-place.invariant _ (search rules) _ c.loop-place-test.true _ c.jumps_within.ensures c.if-not-jumps_within.false

pub returns-then-not-jumps_within : goal.returns-then-not-jumps_within
returns-then-not-jumps_within c =
    all_placed-failed _ _ _ _ c.loop-place.invariant _ (search rules) _ c.loop-place-test.true _ c.jumps_within.ensures c.if-not-jumps_within.true

pub returns : goal.returns
returns c = all_placed-done _ _ _ _ c.loop-place.invariant _ (search rules) c.loop-place-test.false
