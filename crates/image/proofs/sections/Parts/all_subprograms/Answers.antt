use Rattle.std.proofs.Common.{rules}
use Rattle.image.proofs.Placed.{all_placed-done, all_placed-failed, all_placed-passed}
use Rattle.image.proofs.sections.Parts.all_subprograms.Goals as goal

pub loop-number-preserved : goal.loop-number-preserved
loop-number-preserved c =
    all_placed-passed _ _ _ _ c.loop-number.invariant _ (search rules) _ c.loop-number-test.true _ c.is_subprogram.ensures c.if-not-is_subprogram.false

pub returns-then-not-is_subprogram : goal.returns-then-not-is_subprogram
returns-then-not-is_subprogram c =
    all_placed-failed _ _ _ _ c.loop-number.invariant _ (search rules) _ c.loop-number-test.true _ c.is_subprogram.ensures c.if-not-is_subprogram.true

pub returns : goal.returns
returns c = all_placed-done _ _ _ _ c.loop-number.invariant _ (search rules) c.loop-number-test.false
