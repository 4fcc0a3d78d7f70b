use Rattle.std.proofs.Common.{rules}
use Rattle.image.proofs.Placed.{all_placed-done, all_placed-failed, all_placed-passed}
use Rattle.image.proofs.draft.Draft.all_keep_depth.Goals as goal

pub loop-place-preserved : goal.loop-place-preserved
loop-place-preserved c =
    all_placed-passed _ _ _ _ c.loop-place.invariant _ (search rules) _ c.loop-place-test.true _ c.keeps_depth_at.ensures c.if-not-keeps_depth_at.false

pub returns-then-not-keeps_depth_at : goal.returns-then-not-keeps_depth_at
returns-then-not-keeps_depth_at c =
    all_placed-failed _ _ _ _ c.loop-place.invariant _ (search rules) _ c.loop-place-test.true _ c.keeps_depth_at.ensures c.if-not-keeps_depth_at.true

pub returns : goal.returns
returns c = all_placed-done _ _ _ _ c.loop-place.invariant _ (search rules) c.loop-place-test.false
