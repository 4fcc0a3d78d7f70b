use Rattle.std.proofs.Common.{IfSome, subst}
use Rattle.tasking.specs.Held.{kernel_of}
use Rattle.tasking.specs.Orderly.{StandsThere}
use Rattle.tasking.proofs.Moves.{seen}
use Rattle.tasking.proofs.Standing.{some_there}
use Rattle.tasking.proofs.tasking.Tasking.running.Goals as goal

pub returns-clause-there : goal.returns-clause-there
returns-clause-there g c = subst (λ v. IfSome c.self.inside.running (λ t. StandsThere (kernel_of v) t)) c.self.view_is
    (some_there (kernel_of (seen c.self.view_is)))
