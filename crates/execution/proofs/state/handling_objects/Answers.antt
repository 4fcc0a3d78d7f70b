use Rattle.image.specs.Attachments.{handling_object}
use Rattle.execution.proofs.Handlers.{far_channel, nine}
use Rattle.execution.proofs.state.handling_objects.Goals as goal

pub returns-clause-objects : goal.returns-clause-objects
returns-clause-objects c =
    nine (handling_object c.args.image.now) _ _ _ _ _ _ _ _ _ c.handled_object.ensures c.handled_object-2.ensures c.handled_object-3.ensures c.handled_object-4.ensures
    c.handled_object-5.ensures c.handled_object-6.ensures c.handled_object-7.ensures c.handled_object-8.ensures c.handled_object-9.ensures
    (far_channel c.args.image.now c.instructions-instructions.ensures.well_formed)
