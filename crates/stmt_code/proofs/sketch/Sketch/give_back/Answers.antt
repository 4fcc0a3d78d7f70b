use Rattle.std.proofs.Common.{refl}
use Rattle.stmt_code.proofs.PartsAdded.{coded_made}
use Rattle.stmt_code.proofs.sketch.Sketch.give_back.Goals as goal

pub returns-clause-made : goal.returns-clause-made
returns-clause-made c = coded_made _ _ _ _ _ c.self.view_is c.in_ok-height.ensures.made refl
