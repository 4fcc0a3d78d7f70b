use Rattle.std.proofs.Common.{◌≡◌, ◌++◌, drop, flat_map}
use Rattle.image_format.specs.Bytes.{attachment_bytes}
use Rattle.image_format.proofs.encoding.put_attachments.Given as goal

-- what is left, behind what stands, is the whole
abbrev pub invariant-loop-attachment : goal.invariant-loop-attachment
invariant-loop-attachment l =
    l.out.items ++ flat_map attachment_bytes (drop l.attachment-index l.attachments) ≡ l.fn.out.items ++ flat_map attachment_bytes l.attachments
