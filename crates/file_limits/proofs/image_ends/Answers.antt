use Rattle.file_limits.proofs.Images.{image_ends}
use Rattle.file_limits.proofs.image_ends.Goals as goal

pub returns : goal.returns
returns c = image_ends c.args.image.now c.labels.ensures.well_formed
