use Rattle.std.proofs.Common.{refl}
use Rattle.stmt_code.proofs.PartsAdded.{coded_made}
use Rattle.stmt_code.proofs.sketch.Sketch.outs.Goals as goal

pub returns : goal.returns
returns c = record { made = coded_made _ _ _ _ _ c.self.view_is c.in_ok-initialise_outs.ensures.made refl }
