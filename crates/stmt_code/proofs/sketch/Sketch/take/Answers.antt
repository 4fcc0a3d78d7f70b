use Rattle.std.proofs.Common.{rules, refl}
use Rattle.stmt_code.proofs.PartsAdded.{takes_made}
use Rattle.stmt_code.proofs.sketch.Sketch.take.Goals as goal

pub returns : goal.returns
returns c = record { made = takes_made _ _ _ _ _ c.self.view_is (search rules) refl }
