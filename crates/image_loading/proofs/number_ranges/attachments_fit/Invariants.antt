use Rattle.std.proofs.Common.{drop}
use Rattle.image_loading.specs.NumberRanges.{AttachmentFits, EachOf}
use Rattle.image_loading.proofs.number_ranges.attachments_fit.Given as goal

abbrev pub invariant-loop-a : goal.invariant-loop-a
invariant-loop-a l = EachOf AttachmentFits (drop l.a-index l.fn.attachments) → EachOf AttachmentFits l.fn.attachments
