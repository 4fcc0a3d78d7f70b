use Rattle.image_format.proofs.Listed.{name_ascii}
use Rattle.image_format.proofs.listing.put_task.Goals as goal

pub put_ascii-requires : goal.put_ascii-requires
put_ascii-requires c = name_ascii _ c.requires
