use Rattle.std.proofs.Common.{refl}
use Rattle.stmt_code.proofs.PartsAdded.{handles_made}
use Rattle.stmt_code.proofs.sketch.Sketch.handle.Goals as goal

pub returns : goal.returns
returns c = record { made = handles_made _ _ _ _ _ c.self.view_is c.in_ok-append.ensures.rows refl }
