use Rattle.std.proofs.Common.{rules}
use Rattle.image.proofs.Placed.{all_placed-done, all_placed-failed, all_placed-passed}
use Rattle.image.proofs.draft.Draft.all_name_things.Goals as goal

pub loop-place-preserved : goal.loop-place-preserved
loop-place-preserved c =
    all_placed-passed _ _ _ _ c.loop-place.invariant _ (search rules) _ c.loop-place-test.true _ c.names_at.ensures c.if-not-names_at.false

pub returns-then-not-names_at : goal.returns-then-not-names_at
returns-then-not-names_at c =
    all_placed-failed _ _ _ _ c.loop-place.invariant _ (search rules) _ c.loop-place-test.true _ c.names_at.ensures c.if-not-names_at.true

pub returns : goal.returns
returns c = all_placed-done _ _ _ _ c.loop-place.invariant _ (search rules) c.loop-place-test.false
