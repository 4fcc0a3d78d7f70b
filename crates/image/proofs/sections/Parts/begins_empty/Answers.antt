use Rattle.std.proofs.Common.{rules}
use Rattle.image.proofs.Placed.{all_begun-done, all_begun-failed, all_begun-passed, no_subprogram}
use Rattle.image.specs.Rules.{has_depth}
use Rattle.image.proofs.sections.Parts.begins_empty.Goals as goal

pub returns-then-not-has_depth : goal.returns-then-not-has_depth
returns-then-not-has_depth c =
    all_begun-failed (λ first s. has_depth c.args.self.now first 0) _ _ _ _ c.loop-s.invariant _ (search rules) no_subprogram c.loop-s-test.true (search rules)

pub loop-s-preserved : goal.loop-s-preserved
loop-s-preserved c =
    all_begun-passed (λ first s. has_depth c.args.self.now first 0) _ _ _ _ c.loop-s.invariant _ (search rules) _ c.loop-s-test.true (search rules)

pub returns : goal.returns
returns c = all_begun-done (λ first s. has_depth c.args.self.now first 0) _ _ _ _ c.loop-s.invariant _ (search rules) c.loop-s-test.false
