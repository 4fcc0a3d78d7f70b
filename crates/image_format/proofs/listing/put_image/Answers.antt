use Rattle.image_format.proofs.Listed.{texts_right}
use Rattle.image_format.proofs.listing.put_image.Goals as goal

pub put_exceptions-requires : goal.put_exceptions-requires
put_exceptions-requires c = rw c.exceptions.ensures.same (texts_right _ c.exceptions.ensures.well_formed).exceptions

pub put_labels-requires : goal.put_labels-requires
put_labels-requires c = rw c.labels.ensures.same (texts_right _ c.labels.ensures.well_formed).labels

pub put_tasks-requires : goal.put_tasks-requires
put_tasks-requires c = rw c.tasks.ensures.same (texts_right _ c.tasks.ensures.well_formed).tasks
