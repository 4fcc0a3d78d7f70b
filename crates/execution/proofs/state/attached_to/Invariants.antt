use Rattle.std.proofs.Common.{◌≡◌, drop}
use Rattle.image.specs.Attachments.{attached_to}
use Rattle.execution.proofs.state.attached_to.Given as goal

-- what is left decides
abbrev pub invariant-loop-attachment : goal.invariant-loop-attachment
invariant-loop-attachment l = attached_to l.channel (drop l.attachment-index l.attachments) ≡ attached_to l.channel l.attachments
