use Rattle.source_laws.proofs.Peaks.{peaks_are_low}
use Rattle.source_laws.proofs.depth_laws.peaks_are_low.Goals as goal

pub returns : goal.returns
returns c = peaks_are_low
