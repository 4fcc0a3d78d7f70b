use Rattle.std.proofs.Common.{ap, max, ◌∙◌}
use Rattle.protected.proofs.Lists.{raised_turn}
use Rattle.protected.proofs.objects.Objects.active.Goals as goal

pub loop-object-preserved : goal.loop-object-preserved
loop-object-preserved c =
    let l = c.loop-object in
    raised_turn c.args.self.now.ceilings l.active c.max-active.result l.object-index c.open_actions-object-items.result.now 0 c.loop-object-test.true (c.max-active.ensures ∙ ap (max l.active) c.ceiling.ensures) ∙ l.invariant
