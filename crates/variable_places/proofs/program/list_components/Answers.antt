use Rattle.variable_places.proofs.Walked.{component_next}
use Rattle.variable_places.proofs.program.list_components.Goals as goal

pub loop-component-preserved : goal.loop-component-preserved
loop-component-preserved c =
    component_next c.args.names.now c.args.listing.now c.loop-component.listing c.push.new.self c.args.components.now c.loop-component.component-index c.component-item.result
    c.loop-component-test.true c.component-item.is c.loop-component.invariant c.in_ok-push.ensures
