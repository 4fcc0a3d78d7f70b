use Rattle.std.proofs.Common.{◌≡◌, Some, rules}
use Rattle.image.specs.Attachments.{attached_to}
use Rattle.image.specs.Operations.{called}
use Rattle.execution.proofs.Handlers.{object_low}
use Rattle.execution.proofs.state.handled_object.Goals as goal

pub object_number-requires : goal.object_number-requires
object_number-requires c = λ o own.
    let is : attached_to c.args.channel c.args.image.now.attachments ≡ Some c.in_ok-number.number = search rules in
    let there : called c.args.image.now c.in_ok-number.number ≡ Some c.in_ok-subprogram.subprogram = search rules in
    object_low c.args.image.now c.attachments.ensures.well_formed c.code_leads_on.ensures.size c.args.channel c.in_ok-number.number c.in_ok-subprogram.subprogram is there o own
