use Rattle.image_format.proofs.Channels.{few_attached}
use Rattle.image_format.proofs.encoding.put_head.Goals as goal

pub put_attached_count-requires : goal.put_attached_count-requires
put_attached_count-requires c = rw c.attachments-attachments.ensures.same (few_attached _ c.attachments-attachments.ensures.well_formed)
