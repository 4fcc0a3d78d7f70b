use Rattle.std.proofs.Common.{rules, ap, ◌∙◌}
use Rattle.image.proofs.Placed.{all_placed-done, all_placed-failed, all_placed-passed}
use Rattle.image.specs.Rules.{is_object}
use Rattle.image.proofs.sections.Parts.all_objects.Goals as goal

pub loop-number-preserved : goal.loop-number-preserved
loop-number-preserved c =
    all_placed-passed _ _ _ _ c.loop-number.invariant _ (search rules) c.o-item.result c.loop-number-test.true _
    (c.is_object.ensures ∙ ap (is_object c.args.self.now c.loop-number.number) c.o-item.is) c.if-not-is_object.false

pub returns-then-not-is_object : goal.returns-then-not-is_object
returns-then-not-is_object c =
    all_placed-failed _ _ _ _ c.loop-number.invariant _ (search rules) c.o-item.result c.loop-number-test.true _
    (c.is_object.ensures ∙ ap (is_object c.args.self.now c.loop-number.number) c.o-item.is) c.if-not-is_object.true

pub returns : goal.returns
returns c = all_placed-done _ _ _ _ c.loop-number.invariant _ (search rules) c.loop-number-test.false
