use Rattle.std.proofs.Common.{rules, sym}
use Rattle.image.specs.Rules.{are_attached}
use Rattle.image.proofs.Attached.{attached-done, attached-failed, attached-passed}
use Rattle.image.proofs.sections.Parts.are_attached.Goals as goal

pub returns-then-not-is_attached : goal.returns-then-not-is_attached
returns-then-not-is_attached c =
    attached-failed c.args.self.now c.args.self.now.attachments (are_attached c.args.self.now 0 c.args.self.now.attachments) c.loop-a.last c.loop-a.a-index
    c.loop-a.invariant c.deref-a-items.result.now (search rules) _ c.loop-a-test.true (sym c.if-not-is_attached.ensures)

pub loop-a-preserved : goal.loop-a-preserved
loop-a-preserved c = attached-passed c.args.self.now c.args.self.now.attachments (are_attached c.args.self.now 0 c.args.self.now.attachments) c.loop-a.last c.loop-a.a-index c.loop-a.invariant _ (search rules) _ c.loop-a-test.true (search rules)

pub returns : goal.returns
returns c = attached-done c.args.self.now c.args.self.now.attachments (are_attached c.args.self.now 0 c.args.self.now.attachments) c.loop-a.last c.loop-a.a-index c.loop-a.invariant _ (search rules) c.loop-a-test.false
